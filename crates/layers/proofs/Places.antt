-- The place of the first element that passes a test: whether there is one, and the list without it.
use Rattle.std.proofs.Common.{◌≡◌, ℕ, ◌+◌, Bool, true, false, cond, not, ◌||◌, ltb, List, [], ◌∷◌, length, is_some, Some, refl, ap, arith, one-add}
use Rattle.std.proofs.lemmas.Grind.{common_steps}
use Rattle.std.proofs.lemmas.Bool.Decides.{nat_tests}
use Rattle.std.specs.List.{remove, position, position_or_len, list_any}
use Rattle.layers.specs.Layers.{without}

module _ {X : Type 0} (t : X → Bool) where
  any_at : (xs : List X) → ltb (position_or_len t xs) (length xs) ≡ list_any t xs
  any_at [] = refl
  any_at (x ∷ xs) =
      let h = any_at xs in
      elim (t x) as (λ b. ltb (cond (not b) (1 + position_or_len t xs) 0) (length (x ∷ xs)) ≡ (b || list_any t xs)) [ true ↦ grind (arith, nat_tests) | false ↦ grind (arith, nat_tests) ]

  remove-at : (xs : List X) → remove xs (position_or_len t xs) ≡ without t xs
  remove-at [] = refl
  remove-at (x ∷ xs) =
      elim (t x) as (λ b. remove (x ∷ xs) (cond (not b) (1 + position_or_len t xs) 0) ≡ cond b xs (x ∷ without t xs)) [ true ↦ refl | false ↦ rw one-add (ap (λ ys. x ∷ ys) (remove-at xs)) ]

  pub any-position : (xs : List X) → is_some (position t xs) ≡ list_any t xs
  any-position xs = let h = any_at xs in grind (arith, common_steps)

  pub remove-position : (xs : List X) (i : ℕ) → position t xs ≡ Some i → remove xs i ≡ without t xs
  remove-position xs i h = let k = remove-at xs in grind (arith, common_steps)
