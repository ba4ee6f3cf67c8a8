-- What the search keeps true.
use Rattle.std.specs.Prelude.{◌≡◌, ℕ, ◌<◌, ◌≤◌, Bool, true, ◌⊎◌, List, [], ◌∷◌, length, Some, count_by, ◌==◌, slice_index_or}
use Rattle.rules.specs.Rules.{Rules}
use Rattle.rules.specs.Chains.{Grants, GrantsFirst, crosses, LeadsBy, weight_from}
use Rattle.rules.specs.declared.weights.Label.{Label}
use Rattle.search.specs.declared.board.TheConstants.{UNREACHED, LABELLED, SETTLED}
use Rattle.search.specs.Labels.{mark, label, State}
use Rattle.search.specs.Questions.{Apart}

-- how many are settled
abbrev pub settled : List ℕ → ℕ
settled ms = count_by (λ m. m == SETTLED) ms

-- p's label comes from q's, which is settled
pub record Hop {W : Type 0} (z : W) (add : W → Bool → W) (R : Rules) (s : State W) (p q : ℕ) : Type 0 where
  pub done : mark s.0 q ≡ SETTLED
  pub next : (label z s.1 p).next ≡ q
  pub first : GrantsFirst R p q (label z s.1 p).rule
  pub weight : (label z s.1 p).weight ≡ add (label z s.1 q).weight (crosses R p q)

-- the labels lead from p by the privileges of the list to the target
abbrev pub Traced : {W : Type 0} → W → (W → Bool → W) → Rules → ℕ → State W → ℕ → List ℕ → Type 0
Traced z add R t s p [] = (p ≡ t) × ((label z s.1 p).weight ≡ z)
Traced z add R t s p (q ∷ qs) = Hop z add R s p q × Apart p (q ∷ qs) × Traced z add R t s q qs

pub record Trail {W : Type 0} (z : W) (add : W → Bool → W) (R : Rules) (t : ℕ) (s : State W) (p : ℕ) : Type 0 where
  pub rest : List ℕ
  pub traced : Traced z add R t s p rest
  pub short : length rest ≤ settled s.0
  pub shorter : mark s.0 p ≡ SETTLED → length rest < settled s.0

-- what grants a settled privilege in a slot that Seen tells is settled itself, or has a label that weighs no more than by that step
abbrev pub Spread : {W : Type 0} → W → (W → Bool → W) → (W → W → Bool) → Rules → (ℕ → ℕ → Type 0) → State W → Type 0
Spread z add at_most R Seen s = (q k p r : ℕ) → Seen q k → mark s.0 q ≡ SETTLED → R.slot q k ≡ Some (p, r) →
    (mark s.0 p ≡ SETTLED) ⊎ ((mark s.0 p ≡ LABELLED) × (at_most (label z s.1 p).weight (add (label z s.1 q).weight (crosses R p q)) ≡ true))

-- after a privilege q settled, and its slots that Seen tells
pub record Kept {W : Type 0} (z : W) (add : W → Bool → W) (at_most : W → W → Bool) (R : Rules) (held : ℕ → Type 0) (t : ℕ) (old : List (Label W)) (Seen : ℕ → ℕ → Type 0) (s : State W) : Type 0 where
  pub many : length s.0 ≡ R.count
  pub room : R.count ≤ length s.1
  pub past : (k : ℕ) (d : Label W) → R.count ≤ k → slice_index_or s.1 k d ≡ slice_index_or old k d
  pub kinds : (p : ℕ) → mark s.0 p ≤ SETTLED
  pub begun : UNREACHED < mark s.0 t
  pub trails : (p : ℕ) → UNREACHED < mark s.0 p → Trail z add R t s p
  pub spread : Spread z add at_most R Seen s
  pub least : (q : ℕ) → mark s.0 q ≡ SETTLED → (qs : List ℕ) → LeadsBy (Grants R) q qs t → at_most (label z s.1 q).weight (weight_from z add R q qs) ≡ true
  pub unheld : (q : ℕ) → mark s.0 q ≡ SETTLED → held q → ⊥

-- every slot
abbrev pub All : ℕ → ℕ → Type 0
All q k = Unit {0}

-- every slot but those of q from k on
abbrev pub Before : ℕ → ℕ → ℕ → ℕ → Type 0
Before q k p j = p ≡ q → j < k
