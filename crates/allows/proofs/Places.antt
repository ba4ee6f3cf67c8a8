-- Entries of a table, and the first that passes a test. Assumes nothing.
use Rattle.std.proofs.Common.{◌≡◌, ℕ, zero, suc, ◌+◌, ◌<◌, Bool, true, false, cond, List, [], ◌∷◌, map, length, take, Some, None, Decides, Option, sym, refl, ap, ◌∙◌, subst, ⊎_elim, arith}
use Rattle.std.specs.List.{slice_get, position, position_from, list_any}
use Rattle.std.proofs.lemmas.Iterator.Adapters.{position_from-zero}
use Rattle.std.proofs.lemmas.Bool.{cond-true, cond-false, or_left, or_right, or_cases, cases_Bool, both_ways}
use Rattle.text.specs.Bytes.{and_then}
use Rattle.region.specs.Sound.{Entry, Distinct}

pub nothing : {C X : Type 0} {x : X} → None ≡ Some x → C
nothing h = let z : ◌≡◌ {A = ℕ} 0 1 = cc in absurd (omega arith)

-- what a `cond` or an `and_then` that holds something says
pub split : {X C : Type 0} (b : Bool) (x y : Option X) (z : X) → cond b x y ≡ Some z → (b ≡ true → x ≡ Some z → C) → (b ≡ false → y ≡ Some z → C) → C
split true x y z e f g = f refl e
split false x y z e f g = g refl e

pub only : {X C : Type 0} (b : Bool) (x : Option X) (z : X) → cond b x None ≡ Some z → (b ≡ true → x ≡ Some z → C) → C
only b x z e f = split b x None z e f (λ _. nothing)

pub via : {X Y C : Type 0} (o : Option X) (f : X → Option Y) (z : Y) → and_then o f ≡ Some z → ((x : X) → o ≡ Some x → f x ≡ Some z → C) → C
via None f z e g = nothing e
via (Some x) f z e g = g x refl e

pub entry_lt : {X : Type 0} (xs : List X) (i : ℕ) (x : X) → Entry xs i x → i < length xs
entry_lt [] i x e = nothing e
entry_lt (y ∷ xs) zero x e = omega arith
entry_lt (y ∷ xs) (suc i) x e = let h = entry_lt xs i x e in omega arith

pub entry_has : {X : Type 0} (xs : List X) (i : ℕ) → i < length xs → (x : X) × Entry xs i x
entry_has [] i lt = absurd (omega arith)
entry_has (y ∷ xs) zero lt = (y, refl)
entry_has (y ∷ xs) (suc i) lt = entry_has xs i (omega arith)

pub entry-same : {X : Type 0} (xs : List X) (i j : ℕ) (x y : X) → Entry xs i x → Entry xs j y → i ≡ j → x ≡ y
entry-same xs i j x y a b e = let c : slice_get xs i ≡ slice_get xs j = ap (slice_get xs) e in cc

-- a place in a front of a table, seen through a key
pub front_entry : {X K : Type 0} (key : X → K) (n : ℕ) (xs : List X) (i : ℕ) (k : K) → Entry (map key (take n xs)) i k → (x : X) × Entry xs i x × (key x ≡ k)
front_entry key zero xs i k e = nothing e
front_entry key (suc n) [] i k e = nothing e
front_entry key (suc n) (x ∷ xs) zero k e = let q : Some (key x) ≡ Some k = e in (x, refl, cc)
front_entry key (suc n) (x ∷ xs) (suc i) k e = front_entry key n xs i k e

-- x stands at place i and passes, and none before it does
pub record FirstPassing {X : Type 0} (t : X → Bool) (xs : List X) (i : ℕ) : Type 0 where
  pub entry : X
  pub there : Entry xs i entry
  pub passes : t entry ≡ true
  pub none_before : (j : ℕ) (y : X) → j < i → Entry xs j y → t y ≡ true → ⊥

module _ {X : Type 0} (t : X → Bool) where
  first_more : (y : X) (xs : List X) (i : ℕ) → t y ≡ false → FirstPassing t xs i → FirstPassing t (y ∷ xs) (suc i)
  first_more y xs i f r = record { entry = r.entry; there = r.there; passes = r.passes; none_before = none } where
    none : (j : ℕ) (z : X) → j < suc i → Entry (y ∷ xs) j z → t z ≡ true → ⊥
    none zero z lt e p = let q : Some y ≡ Some z = e in let v : y ≡ z = cc in both_ways (t y) f (ap t v ∙ p)
    none (suc j) z lt e p = r.none_before j z (omega arith) e p

  -- the first that passes, where the first of the entries has place k
  record From (xs : List X) (k i : ℕ) : Type 0 where
    pub place : ℕ
    pub is : i ≡ k + place
    pub first : FirstPassing t xs place

  from : (xs : List X) (k i : ℕ) → position_from t k xs ≡ Some i → From xs k i
  from [] k i e = nothing e
  from (y ∷ xs) k i e = split (t y) (Some k) _ i e here (λ f q. later f (from xs (k + 1) i q)) where
    here : t y ≡ true → Some k ≡ Some i → From (y ∷ xs) k i
    here p q = let v : k ≡ i = cc in record { place = 0; is = omega arith; first = record { entry = y; there = refl; passes = p; none_before = λ j z l. absurd (omega arith) } }

    later : t y ≡ false → From xs (k + 1) i → From (y ∷ xs) k i
    later f r = let q = r.is in record { place = suc r.place; is = omega arith; first = first_more y xs r.place f r.first }

  pub place_in : (xs : List X) (i : ℕ) → position t xs ≡ Some i → FirstPassing t xs i
  place_in xs i e = let r = from xs 0 i (sym (position_from-zero t xs) ∙ e) in let q : r.place ≡ i = (let h = r.is in omega arith) in subst (FirstPassing t xs) q r.first

  to : (xs : List X) (k i : ℕ) (x : X) → Entry xs i x → t x ≡ true → ((j : ℕ) (y : X) → j < i → Entry xs j y → t y ≡ true → ⊥) → position_from t k xs ≡ Some (k + i)
  to [] k i x e p none = nothing e
  to (y ∷ xs) k zero x e p none = let q : Some y ≡ Some x = e in let v : y ≡ x = cc in cond-true (t y) _ _ (ap t v ∙ p) ∙ ap Some (omega arith)
  to (y ∷ xs) k (suc i) x e p none =
      ⊎_elim
      (λ b. absurd (none 0 y (omega arith) refl b))
      (λ b. cond-false (t y) _ _ b ∙ to xs (k + 1) i x e p (λ j z l h q. none (suc j) z (omega arith) h q) ∙ ap Some (omega arith))
      (cases_Bool (t y))

  pub place_out : (xs : List X) (i : ℕ) (x : X) → Entry xs i x → t x ≡ true → ((j : ℕ) (y : X) → j < i → Entry xs j y → t y ≡ true → ⊥) → position t xs ≡ Some i
  place_out xs i x e p none = position_from-zero t xs ∙ to xs 0 i x e p none ∙ ap Some (omega arith)

  -- where what passes has one key, and no two entries have the same, an entry that passes is the first
  pub place-alone : {K : Type 0} (key : X → K) (k : K) → ((x : X) → t x ≡ true → key x ≡ k) → (xs : List X) → Distinct key xs → (i : ℕ) (x : X) → Entry xs i x → t x ≡ true → position t xs ≡ Some i
  place-alone key k keyed xs apart i x e p = place_out xs i x e p (λ j y lt h q. let v = apart j i y x h e (keyed y q ∙ sym (keyed x p)) in omega arith)

  module _ (P : X → Type 0) (dec : (x : X) → Decides (t x) (P x)) where
    pub some-decides : (xs : List X) → Decides (list_any t xs) ((m : ℕ) × (x : X) × Entry xs m x × P x)
    some-decides xs = (to xs, λ h. from xs h.0 h.1 h.2 h.3) where
      to : (xs : List X) → list_any t xs ≡ true → (m : ℕ) × (x : X) × Entry xs m x × P x
      to [] e = let v : ◌≡◌ {A = ℕ} 0 1 = cc in absurd (omega arith)
      to (y ∷ xs) e = ⊎_elim (λ h. (0, y, refl, (dec y).0 h)) (λ h. let r = to xs h in (suc r.0, r.1, r.2, r.3)) (or_cases (t y) (list_any t xs) e)

      from : (xs : List X) (m : ℕ) (x : X) → Entry xs m x → P x → list_any t xs ≡ true
      from [] m x e p = nothing e
      from (y ∷ xs) zero x e p = let e1 : Some y ≡ Some x = e in let q : y ≡ x = cc in or_left (t y) _ ((dec y).1 (subst P (sym q) p))
      from (y ∷ xs) (suc m) x e p = or_right (t y) _ (from xs m x e p)
