-- Lines that were read and not refused: what holds of them, and how many rows they gave. Assumes nothing.
use Rattle.std.proofs.Common.{◌≡◌, ℕ, ◌+◌, Bool, true, false, cond, leb, List, [], ◌∷◌, ◌++◌, length, is_ok, Some, None, Ok, Err, filter, Option, Result, refl, ap, sym, subst, ◌⊎◌, inl, inr, ⊎_elim, arith}
use Rattle.std.proofs.lemmas.List.{length-append}
use Rattle.text.specs.Cuts.{lines}
use Rattle.reading.specs.declared.fault.LineFault.{LineFault}
use Rattle.reading.specs.declared.fault.TextFault.{TextFault}
use Rattle.reading.specs.declared.fault.Kind.{Kind}
use Rattle.reading.specs.declared.fault.Refusal.{Refusal}
use Rattle.reading.specs.declared.fault.Refusal.TheVariants.{Given, TooLong}
use Rattle.reading.specs.Faults.{fault}
use Rattle.reading.specs.Reads.{wants, needs, and_then, at_line, value_or, passed_over, gives_entry, entry_lines, read_from, read_text, text_told}
use Rattle.tables.specs.Steps.{with_row}

err_ok : {A E C : Type 0} (e : E) (x : A) → Err e ≡ Ok x → C
err_ok e x k = let z : ◌≡◌ {A = ℕ} 0 1 = cc in absurd (omega arith)

-- what was not refused met what was asked
pub wants_ok : {A B : Type 0} (w : Refusal) (o : Option A) (f : A → Result B Refusal) (b : B) → wants w o f ≡ Ok b → (x : A) × (o ≡ Some x) × (f x ≡ Ok b)
wants_ok w None f b e = err_ok w b e
wants_ok w (Some x) f b e = (x, refl, e)

pub needs_ok : {B : Type 0} (w : Refusal) (t : Bool) (r : Result B Refusal) (b : B) → needs w t r ≡ Ok b → (t ≡ true) × (r ≡ Ok b)
needs_ok w true r b e = (refl, e)
needs_ok w false r b e = err_ok w b e

pub then_ok : {A B E : Type 0} (r : Result A E) (f : A → Result B E) (b : B) → and_then r f ≡ Ok b → (x : A) × (r ≡ Ok x) × (f x ≡ Ok b)
then_ok (Ok x) f b e = (x, refl, e)
then_ok (Err k) f b e = err_ok k b e

pub row_added : {X : Type 0} (most : ℕ) (rows : List X) (x : X) (ys : List X) → with_row most rows x ≡ Ok ys → ys ≡ rows ++ x ∷ []
row_added most rows x ys e = grind arith

-- a row that was not refused is one more
pub row_grown : {X : Type 0} (r : Result X Refusal) (fresh : X → Bool) (most : ℕ) (rows ys : List X) → and_then r (λ x. needs Given (fresh x) (with_row most rows x)) ≡ Ok ys → length ys ≡ length rows + 1
row_grown (Err w) fresh most rows ys e = err_ok w ys e
row_grown {X = X} (Ok x) fresh most rows ys e = grind (arith, length-append {A = X})

line_ok : {A : Type 0} (n : ℕ) (r : Result A Refusal) (b : A) → at_line n r ≡ Ok b → r ≡ Ok b
line_ok n r b e = grind arith

-- a table that was read holds what its lines make of it, or what it held on the first day
read_or_first : {A : Type 0} (short : Bool) (r : Result A LineFault) (table first : A) → table ≡ value_or first (cond short r (Err (fault TooLong 0))) → (table ≡ first) ⊎ (r ≡ Ok table)
read_or_first true (Ok x) table first held = inr (ap Ok (sym held))
read_or_first true (Err e) table first held = inl held
read_or_first false r table first held = inl held

read_if_ok : {A : Type 0} (short : Bool) (r : Result A LineFault) (table first : A) (k : Kind) (told : Result (Unit {0}) TextFault) → table ≡ value_or first (cond short r (Err (fault TooLong 0))) → told ≡ text_told k (cond short r (Err (fault TooLong 0))) → is_ok told ≡ true → r ≡ Ok table
read_if_ok short r table first k told held is ok = grind arith

module _ {A : Type 0} (step : A → List ℕ → Result A Refusal) where
  -- what holds of no lines, and of a line before others, holds of all
  pub by_lines : (P : A → List (List ℕ) → A → Type 0) → ((a : A) → P a [] a) → ((a : A) (l : List ℕ) (b : A) (ls : List (List ℕ)) (c : A) → step a l ≡ Ok b → P b ls c → P a (l ∷ ls) c) → (n : ℕ) (a : A) (ls : List (List ℕ)) (c : A) → read_from step n a ls ≡ Ok c → P a ls c
  by_lines P none more n a [] c e = let same : a ≡ c = cc in subst (λ b. P a [] b) same (none a)
  by_lines P none more n a (l ∷ ls) c e = let p = then_ok (at_line n (step a l)) _ c e in more a l p.0 ls c (line_ok n (step a l) p.0 p.1) (by_lines P none more (n + 1) p.0 ls c p.2)

  module _ (first table : A) (bs : List ℕ) (held : table ≡ value_or first (read_text step first bs)) where
    -- what holds on the first day and stays as lines are read holds of the table
    pub kept : (P : A → Type 0) → P first → ((a : A) (l : List ℕ) (b : A) → step a l ≡ Ok b → P a → P b) → P table
    kept P none stays =
        ⊎_elim
        (λ same. rw same none)
        (λ read. by_lines (λ a ls c. P a → P c) (λ a p. p) (λ a l b ls c e h p. h (stays a l b e p)) 1 first (lines bs) table read none)
        (read_or_first (leb (length bs) 8192) (read_from step 1 first (lines bs)) table first held)

    -- a text that was accepted was read line by line
    module _ (k : Kind) (told : Result (Unit {0}) TextFault) (is : told ≡ text_told k (read_text step first bs)) (ok : is_ok told ≡ true) where
      pub accepted : read_from step 1 first (lines bs) ≡ Ok table
      accepted = read_if_ok (leb (length bs) 8192) (read_from step 1 first (lines bs)) table first k told held is ok

      module _ (size : A → ℕ) (empty : size first ≡ 0) where
        -- each line gave one
        pub counted : ((a : A) (l : List ℕ) (b : A) → step a l ≡ Ok b → size b ≡ size a + 1) → size table ≡ length (lines bs)
        counted grows =
            let all = by_lines (λ a ls c. size c ≡ size a + length ls) (λ a. omega arith) (λ a l b ls c e h. omega (arith, grows a l b e, h)) 1 first (lines bs) table accepted in
            omega (arith, all, empty)

        -- each line that gives an entry gave one
        pub counted_entries : ((a : A) (l : List ℕ) (b : A) → step a l ≡ Ok b → size b ≡ size a + cond (passed_over l) 0 1) → size table ≡ length (entry_lines bs)
        counted_entries grows =
            let all = by_lines (λ a ls c. size c ≡ size a + length (filter gives_entry ls)) (λ a. omega arith) (λ a l b ls c e h. let g = grows a l b e in grind arith) 1 first (lines bs) table accepted in
            omega (arith, all, empty)
