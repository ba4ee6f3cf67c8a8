-- A question of two lines: start and goal. Assumes nothing.
use Rattle.std.specs.Prelude.{◌≡◌, ℕ, true, List, ◌∷◌, Some, None, Option}
use Rattle.rules.specs.Rules.{Rules}
use Rattle.text.specs.Cuts.{lines}

-- the first two of some lines
pub record Begins (ls : List (List ℕ)) (first second : List ℕ) : Type 0 where
  pub rest : List (List ℕ)
  pub is : ls ≡ first ∷ (second ∷ rest)

-- the first line prints a live privilege and the second another, or there are no such two
abbrev pub NamedByLines : Rules → (ℕ → List ℕ) → List ℕ → Option (ℕ × ℕ) → Type 0
NamedByLines R form question (Some x) = (R.live x.0 ≡ true) × (R.live x.1 ≡ true) × Begins (lines question) (form x.0) (form x.1)
NamedByLines R form question None = (p q : ℕ) → R.live p ≡ true → R.live q ≡ true → Begins (lines question) (form p) (form q) → ⊥
