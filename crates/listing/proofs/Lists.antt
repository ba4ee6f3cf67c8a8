-- The entry at a place of a list, after a write and with more behind. Assumes nothing.
use Rattle.std.proofs.Common.{◌≡◌, ℕ, zero, suc, ◌⊎◌, List, [], ◌∷◌, ◌++◌, length, set, Some, refl, ap, inl, inr, ⊎_elim}
use Rattle.std.specs.List.{slice_get}
use Rattle.std.proofs.lemmas.Option.{none-some, same_Some}

module _ {X : Type 0} where
  -- what stands at a place after a write
  pub set_cases : (xs : List X) (k i : ℕ) (x y : X) → slice_get (set xs k x) i ≡ Some y → ((i ≡ k) × (x ≡ y)) ⊎ (slice_get xs i ≡ Some y)
  set_cases [] k i x y e = inr e
  set_cases (z ∷ zs) zero zero x y e = inl (refl, same_Some x y e)
  set_cases (z ∷ zs) zero (suc i) x y e = inr e
  set_cases (z ∷ zs) (suc k) zero x y e = inr e
  set_cases (z ∷ zs) (suc k) (suc i) x y e = ⊎_elim (λ h. inl (ap suc h.0, h.1)) inr (set_cases zs k i x y e)

  -- what stands at a place after one more
  pub push_cases : (xs : List X) (x : X) (i : ℕ) (y : X) → slice_get (xs ++ x ∷ []) i ≡ Some y → ((i ≡ length xs) × (x ≡ y)) ⊎ (slice_get xs i ≡ Some y)
  push_cases [] x zero y e = inl (refl, same_Some x y e)
  push_cases [] x (suc i) y e = absurd (none-some y e)
  push_cases (z ∷ zs) x zero y e = inr e
  push_cases (z ∷ zs) x (suc i) y e = ⊎_elim (λ h. inl (ap suc h.0, h.1)) inr (push_cases zs x i y e)

  -- what stood there before
  pub push_stays : (xs : List X) (x : X) (i : ℕ) (y : X) → slice_get xs i ≡ Some y → slice_get (xs ++ x ∷ []) i ≡ Some y
  push_stays [] x i y e = absurd (none-some y e)
  push_stays (z ∷ zs) x zero y e = e
  push_stays (z ∷ zs) x (suc i) y e = push_stays zs x i y e

  -- P of each entry with its place
  abbrev pub AllAt : (ℕ → X → Type 0) → List X → Type 0
  AllAt P [] = Unit {0}
  AllAt P (x ∷ xs) = P 0 x × AllAt (λ i. P (suc i)) xs

  pub at_place : (P : ℕ → X → Type 0) (xs : List X) → AllAt P xs → (i : ℕ) (x : X) → slice_get xs i ≡ Some x → P i x
  at_place P [] h i x e = absurd (none-some x e)
  at_place P (y ∷ ys) h zero x e = let same : y ≡ x = same_Some y x e in rw (← same) h.0
  at_place P (y ∷ ys) h (suc i) x e = at_place (λ j. P (suc j)) ys h.1 i x e
