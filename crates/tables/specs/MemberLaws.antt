-- Whom the line of a group lists. Assumes nothing.
use Rattle.std.specs.Prelude.{ℕ, false, List, [], ◌∷◌, Decides, slice_index_or}
use Rattle.text.specs.Cuts.{fields}
use Rattle.text.specs.declared.cuts.Mark.TheVariants.{Colon}
use Rattle.region.specs.Tables.{AccountEntry, GroupEntry}
use Rattle.region.specs.Sound.{Entry}
use Rattle.tables.specs.GroupText.{members}

-- x stands somewhere in a list
abbrev pub Among : {X : Type 0} → X → List X → Type 0
Among x xs = (j : ℕ) × Entry xs j x

-- the names between the commas of a line's last field
abbrev pub line_members : List ℕ → List (List ℕ)
line_members l = members (slice_index_or (fields Colon l) 3 [])

-- the group of a line lists an account exactly where the account's name stands between the commas
abbrev pub ListedExactly : List AccountEntry → List ℕ → GroupEntry → Type 0
ListedExactly accounts l g = (i : ℕ) (a : AccountEntry) → Entry accounts i a → Decides (slice_index_or g.listed i false) (Among a.name (line_members l))

-- each line and the row in its place, and no line or row besides
abbrev pub LineByLine : {X : Type 0} → (List ℕ → X → Type 0) → List (List ℕ) → List X → Type 0
LineByLine P [] [] = Unit {0}
LineByLine P [] (x ∷ xs) = ⊥
LineByLine P (l ∷ ls) [] = ⊥
LineByLine P (l ∷ ls) (x ∷ xs) = P l x × LineByLine P ls xs
