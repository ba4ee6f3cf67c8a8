-- A text of four, five or six bytes, byte by byte. Assumes nothing.
use Rattle.std.proofs.Common.{◌≡◌, ℕ, ◌<◌, ◌≤◌, List, [], ◌∷◌, length, get_or, refl, arith}
use Rattle.std.proofs.lemmas.List.FromFn.{fill_by_all}

module _ (s : List ℕ) where
  pub four_bytes : 4 ≤ length s → length s < 5 → s ≡ get_or s 0 0 ∷ get_or s 1 0 ∷ get_or s 2 0 ∷ get_or s 3 0 ∷ []
  four_bytes h k = fill_by_all (λ i. get_or s i 0) s 4 0 (omega arith) (λ _ _. refl)

  pub five_bytes : 5 ≤ length s → length s < 6 → s ≡ get_or s 0 0 ∷ get_or s 1 0 ∷ get_or s 2 0 ∷ get_or s 3 0 ∷ get_or s 4 0 ∷ []
  five_bytes h k = fill_by_all (λ i. get_or s i 0) s 5 0 (omega arith) (λ _ _. refl)

  pub six_bytes : 6 ≤ length s → length s < 7 → s ≡ get_or s 0 0 ∷ get_or s 1 0 ∷ get_or s 2 0 ∷ get_or s 3 0 ∷ get_or s 4 0 ∷ get_or s 5 0 ∷ []
  six_bytes h k = fill_by_all (λ i. get_or s i 0) s 6 0 (omega arith) (λ _ _. refl)

pub ruleset spelled = (four_bytes, five_bytes, six_bytes)
