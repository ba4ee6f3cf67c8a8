-- A search through rows, where the test is of what the rows say. Assumes nothing.
use Rattle.std.proofs.Common.{◌≡◌, ℕ, ◌+◌, Bool, cond, ◌||◌, List, [], ◌∷◌, map, Some, position, refl, sym, ap, ◌∙◌}
use Rattle.std.specs.List.{position_from, list_any}
use Rattle.std.proofs.lemmas.Iterator.Adapters.{position_from-zero}

module _ {X Y : Type 0} (view : X → Y) (p : Y → Bool) where
  position_from-map : (i : ℕ) (xs : List X) → position_from p i (map view xs) ≡ position_from (λ x. p (view x)) i xs
  position_from-map i [] = refl
  position_from-map i (x ∷ xs) = ap (cond (p (view x)) (Some i)) (position_from-map (i + 1) xs)

  pub position-map : (xs : List X) → position p (map view xs) ≡ position (λ x. p (view x)) xs
  position-map xs = position_from-zero p (map view xs) ∙ position_from-map 0 xs ∙ sym (position_from-zero (λ x. p (view x)) xs)

  pub list_any-map : (xs : List X) → list_any p (map view xs) ≡ list_any (λ x. p (view x)) xs
  list_any-map [] = refl
  list_any-map (x ∷ xs) = ap (λ b. p (view x) || b) (list_any-map xs)
