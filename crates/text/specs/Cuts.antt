-- Texts cut at marks. Assumes nothing.
use Rattle.std.specs.Prelude.{◌≡◌, ℕ, ◌<◌, Bool, true, false, cond, ◌||◌, List, [], ◌∷◌, length, Some, None, filter, Option, ◌==◌}
use Rattle.std.specs.Borrow.{Bor}
use Rattle.std.specs.List.{onto_first}
use Rattle.text.specs.declared.cuts.Mark.{Mark}
use Rattle.text.specs.declared.cuts.Mark.TheVariants.{Newline, Blank, Colon, Comma, Slash, Equals, Hash}

abbrev pub marks : Mark → ℕ → Bool
marks Newline b = b == 10
marks Blank b = b == 32 || b == 9
marks Colon b = b == 58
marks Comma b = b == 44
marks Slash b = b == 47
marks Equals b = b == 61
marks Hash b = b == 35

-- the bytes before the first mark, or all
abbrev pub until : (ℕ → Bool) → List ℕ → List ℕ
until p [] = []
until p (b ∷ bs) = cond (p b) [] (b ∷ until p bs)

-- the bytes past the first mark, if there is one
abbrev pub past : (ℕ → Bool) → List ℕ → Option (List ℕ)
past p [] = None
past p (b ∷ bs) = cond (p b) (Some bs) (past p bs)

-- a byte put before the first part, which it is where there is none
abbrev pub onto : ℕ → List (List ℕ) → List (List ℕ)
onto b ls = onto_first b ls

-- the parts between marks, where e are the parts of nothing
abbrev pub parted : List (List ℕ) → (ℕ → Bool) → List ℕ → List (List ℕ)
parted e p [] = e
parted e p (b ∷ bs) = cond (p b) ([] ∷ parted e p bs) (onto b (parted e p bs))

-- the parts past a mark, where there is one
abbrev pub later : List (List ℕ) → (ℕ → Bool) → Option (List ℕ) → List (List ℕ)
later e p None = []
later e p (Some bs) = parted e p bs

abbrev pub lines : List ℕ → List (List ℕ)
lines bs = parted [] (marks Newline) bs

abbrev pub fields : Mark → List ℕ → List (List ℕ)
fields m bs = parted ([] ∷ []) (marks m) bs

-- the fields past a mark, where there is one
abbrev pub fields_past : Mark → Option (List ℕ) → List (List ℕ)
fields_past m o = later ([] ∷ []) (marks m) o

-- the runs of bytes that are no blank or tab
abbrev pub some : List ℕ → Bool
some [] = false
some (b ∷ bs) = true

abbrev pub words : List ℕ → List (List ℕ)
words bs = filter some (fields Blank bs)

-- the first of what f gives of s, and what is left of s; or None, where there is none
abbrev pub Next : (List ℕ → List (List ℕ)) → List ℕ → Option (Bor (List ℕ) × Bor (List ℕ)) → Type 0
Next f s None = f s ≡ []
Next f s (Some p) = (f s ≡ p.0.now ∷ f p.1.now) × (length p.1.now < length s)

-- s is cut at its first mark, if it has one
abbrev pub Splits : Mark → List ℕ → Option (Bor (List ℕ) × Bor (List ℕ)) → Type 0
Splits m s None = fields m s ≡ s ∷ []
Splits m s (Some p) = (fields m s ≡ p.0.now ∷ fields m p.1.now) × (length p.1.now < length s)
