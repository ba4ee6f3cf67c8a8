-- File rows as the entries of a host's table, and the rows that every host has. Assumes nothing.
use Rattle.std.specs.Prelude.{◌≡◌, ◌≢◌, ℕ, Bool, true, false, List, [], ◌∷◌, map, take, is_some, Some, None, codes, Option, option_map, option_and_then, position, slice_get}
use Rattle.std.specs.Str.{bytes_eq}
use Rattle.text.specs.Paths.{parent}
use Rattle.text.specs.Kept.{path_bytes}
use Rattle.region.specs.Tables.{FileEntry, Stat}
use Rattle.region.specs.Sound.{Entry, fixed_paths}
use Rattle.listing.specs.declared.row.FileRow.{FileRow}
use Rattle.listing.specs.declared.row.Stat.{Stat as StatRow}

abbrev pub stat_of : StatRow → Stat
stat_of s = record { dir = s.dir; owner = s.owner; group = s.group; mode = s.mode }

abbrev pub file_entry : FileRow → FileEntry
file_entry r = record { path = path_bytes r.path; above = r.above; stat = option_map stat_of r.stat }

-- a row that is not listed
abbrev pub absent : List ℕ × ℕ → FileEntry
absent f = record { path = f.0; above = f.1; stat = None }

-- the paths of rows 0 to 10, each with the place of the row above
abbrev pub fixed_rows : List (List ℕ × ℕ)
fixed_rows = (codes "/", 0) ∷ (codes "/etc", 0) ∷ (codes "/etc/passwd", 1) ∷ (codes "/etc/group", 1) ∷ (codes "/etc/hosts.equiv", 1) ∷ (codes "/etc/rc", 1) ∷ (codes "/etc/rc.local", 1) ∷ (codes "/usr", 0) ∷ (codes "/usr/lib", 7) ∷ (codes "/usr/lib/crontab", 8) ∷ (codes "/usr/lib/aliases", 8) ∷ []

-- the table on the first day
abbrev pub absent_rows : List FileEntry
absent_rows = map absent fixed_rows

abbrev pub paths_of : List FileEntry → List (List ℕ)
paths_of xs = map (λ x. x.path) xs

-- the place of a path among paths, if it is one of them
abbrev pub place_in : List ℕ → List (List ℕ) → Option ℕ
place_in p qs = position (λ q. bytes_eq q p) qs

-- the place of the row of a path
abbrev pub place_of : List ℕ → List FileEntry → Option ℕ
place_of p xs = place_in p (paths_of xs)

-- the stat of the row at a place, if there is a row and it is listed
abbrev pub stat_at : List FileEntry → ℕ → Option Stat
stat_at xs i = option_and_then (λ x. x.stat) (slice_get xs i)

-- listed as a directory
abbrev pub is_dir : Option Stat → Bool
is_dir None = false
is_dir (Some s) = s.dir

-- the row above x has the path of the directory that holds x
abbrev pub ParentAbove : List FileEntry → FileEntry → Type 0
ParentAbove xs x = slice_get (paths_of xs) x.above ≡ Some (parent x.path)

-- rows 0 to 10 have their paths
abbrev pub FixedRows : List FileEntry → Type 0
FixedRows xs = take 11 (paths_of xs) ≡ fixed_paths

-- each path stands once
abbrev pub PathsOnce : List FileEntry → Type 0
PathsOnce xs = (r : ℕ) (p : List ℕ) → Entry (paths_of xs) r p → place_of p xs ≡ Some r

-- the row above each row has the path of the directory that holds it
abbrev pub ParentsAbove : List FileEntry → Type 0
ParentsAbove xs = (r : ℕ) (x : FileEntry) → Entry xs r x → ParentAbove xs x

-- each row that is listed is the root, or stands under a row that is listed as a directory
abbrev pub UnderDirs : List FileEntry → Type 0
UnderDirs xs = (r : ℕ) (x : FileEntry) → Entry xs r x → (r ≢ 0) → is_some x.stat ≡ true → is_dir (stat_at xs x.above) ≡ true
