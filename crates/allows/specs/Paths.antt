-- The paths that rules speak of. Assumes nothing.
use Rattle.std.specs.Prelude.{ℕ, cond, List, [], ◌++◌, codes}
use Rattle.std.specs.Str.{bytes_eq}

-- the path of a file in a home, from the file's name with a slash before it; the home `/` adds no part of its own
abbrev pub in_home : List ℕ → List ℕ → List ℕ
in_home home file = cond (bytes_eq home (codes "/")) [] home ++ file

-- the path of a NIS map of a domain, from the map's name with a slash before it
abbrev pub nis_map : List ℕ → List ℕ → List ℕ
nis_map domain file = codes "/var/yp/" ++ (domain ++ file)
