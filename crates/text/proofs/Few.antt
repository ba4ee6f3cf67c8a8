-- A text has no more lines, words and fields than it has room for. Assumes nothing.
use Rattle.std.proofs.Common.{ℕ, ◌+◌, ◌≤◌, Bool, true, false, List, [], ◌∷◌, length, ◌≡◌, filter, refl, arith}
use Rattle.text.specs.declared.cuts.Mark.{Mark}
use Rattle.text.specs.declared.cuts.Mark.TheVariants.{Newline, Blank}
use Rattle.text.specs.Cuts.{marks, onto, parted, fields, lines, words, some}

few_onto : (b : ℕ) (ps : List (List ℕ)) (n : ℕ) → length ps ≤ n → length (onto b ps) ≤ n + 1
few_onto b [] n h = omega arith
few_onto b (p ∷ ps) n h = omega arith

few_cons : (e : List (List ℕ)) (p : ℕ → Bool) (b : ℕ) (bs : List ℕ) (n : ℕ) (t : Bool) → p b ≡ t → length (parted e p bs) ≤ n → length (parted e p (b ∷ bs)) ≤ n + 1
few_cons e p b bs n true h k = rw h (omega arith)
few_cons e p b bs n false h k = rw h (few_onto b (parted e p bs) n k)

few_parted : (e : List (List ℕ)) (p : ℕ → Bool) (bs : List ℕ) → length (parted e p bs) ≤ length bs + length e
few_parted e p [] = omega arith
few_parted e p (b ∷ bs) = omega (arith, few_cons e p b bs (length bs + length e) (p b) refl (few_parted e p bs))

pub few_lines : (bs : List ℕ) → length (lines bs) ≤ length bs
few_lines bs = omega (arith, few_parted [] (marks Newline) bs)

pub few_fields : (m : Mark) (bs : List ℕ) → length (fields m bs) ≤ length bs + 1
few_fields m bs = few_parted ([] ∷ []) (marks m) bs

-- a word takes a byte; an empty part before the first mark is none
some_onto : (b : ℕ) (ps : List (List ℕ)) → length (filter some (onto b ps)) ≤ length (filter some ps) + 1
some_onto b [] = omega arith
some_onto b ([] ∷ ps) = omega arith
some_onto b ((a ∷ p) ∷ ps) = omega arith

words-cons : (p : ℕ → Bool) (b : ℕ) (bs : List ℕ) (t : Bool) → p b ≡ t → length (filter some (parted ([] ∷ []) p (b ∷ bs))) ≤ length (filter some (parted ([] ∷ []) p bs)) + 1
words-cons p b bs true h = rw h (omega arith)
words-cons p b bs false h = rw h (some_onto b (parted ([] ∷ []) p bs))

few_some : (p : ℕ → Bool) (bs : List ℕ) → length (filter some (parted ([] ∷ []) p bs)) ≤ length bs
few_some p [] = omega arith
few_some p (b ∷ bs) = omega (arith, words-cons p b bs (p b) refl, few_some p bs)

pub few_words : (bs : List ℕ) → length (words bs) ≤ length bs
few_words bs = few_some (marks Blank) bs
