-- Paths. Assumes nothing.
use Rattle.std.specs.Prelude.{ℕ, Bool, false, ◌&&◌, ◌||◌, List, [], ◌∷◌, codes, ◌==◌}
use Rattle.std.specs.List.{list_all, before_last}
use Rattle.std.specs.Str.{bytes_eq}
use Rattle.text.specs.declared.cuts.Mark.TheVariants.{Slash}
use Rattle.text.specs.Bytes.{part, fits}
use Rattle.text.specs.Cuts.{fields}

-- a slash, and then parts between slashes
abbrev pub rooted : List ℕ → Bool
rooted [] = false
rooted (b ∷ bs) = b == 47 && list_all part (fields Slash bs)

abbrev pub path_form : List ℕ → Bool
path_form bs = bytes_eq bs (codes "/") || rooted bs

abbrev pub path : List ℕ → Bool
path bs = fits 63 path_form bs

-- the root, in the place of nothing
abbrev pub or_root : List ℕ → List ℕ
or_root [] = codes "/"
or_root (b ∷ bs) = b ∷ bs

-- the directory above: what stands before the last slash, or the root
abbrev pub parent : List ℕ → List ℕ
parent p = or_root (before_last (λ b. b == 47) p)
