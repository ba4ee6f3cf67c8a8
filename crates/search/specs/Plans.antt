-- How a plan is written from the labels.
use Rattle.std.specs.Prelude.{◌≡◌, ℕ, ◌<◌, Bool, true, List, [], ◌∷◌, length, ◌≢◌}
use Rattle.rules.specs.Rules.{Rules}
use Rattle.rules.specs.Chains.{Grants, ChainBy, weight_of}
use Rattle.rules.specs.declared.weights.Label.{Label}
use Rattle.search.specs.declared.board.TheConstants.{SETTLED}
use Rattle.search.specs.declared.answer.Found.{Found}
use Rattle.search.specs.Labels.{label, mark, State}
use Rattle.search.specs.Lists.{overlay}
use Rattle.search.specs.Trails.{Trail}

-- the labels lead from p by the privileges of the list to the target
abbrev pub Follows : {W : Type 0} → W → List (Label W) → ℕ → ℕ → List ℕ → Type 0
Follows z ls t p [] = p ≡ t
Follows z ls t p (q ∷ qs) = (p ≢ t) × (p < length ls) × ((label z ls p).next ≡ q) × Follows z ls t q qs

-- the rules beside the list
abbrev pub rules_of : {W : Type 0} → W → List (Label W) → ℕ → List ℕ → List ℕ
rules_of z ls p [] = []
rules_of z ls p (q ∷ qs) = (label z ls p).rule ∷ rules_of z ls q qs

-- what is to be written fits
pub record Fitting {W : Type 0} (z : W) (ls : List (Label W)) (t p : ℕ) (plan rules : List ℕ) : Type 0 where
  pub labelled : p < length ls
  pub rest : List ℕ
  pub follows : Follows z ls t p rest
  pub in_plan : length rest < length plan
  pub in_rules : length rest < length rules
  pub in_count : length rest < 65536

pub record Done {W : Type 0} (z : W) (ls : List (Label W)) (t p : ℕ) (f : Found W) (plan₀ plan rules₀ rules : List ℕ) : Type 0 where
  pub rest : List ℕ
  pub follows : Follows z ls t p rest
  pub steps : f.steps ≡ length rest
  pub weight : f.weight ≡ (label z ls p).weight
  pub plan_is : plan ≡ overlay (p ∷ rest) plan₀
  pub rules_is : rules ≡ overlay (0 ∷ rules_of z ls p rest) rules₀

-- the search came to a held privilege, by a least chain
pub record Arrived {W : Type 0} (z : W) (add : W → Bool → W) (at_most : W → W → Bool) (R : Rules) (held : ℕ → Type 0) (t : ℕ) (s : State W) (q : ℕ) : Type 0 where
  pub is_held : held q
  pub within : q < length s.1
  pub trail : Trail z add R t s q
  pub short : length trail.rest < R.count
  pub least : (ps : List ℕ) → ChainBy R (Grants R) held t ps → at_most (label z s.1 q).weight (weight_of z add R ps) ≡ true
  pub unheld : (p : ℕ) → mark s.0 p ≡ SETTLED → held p → ⊥
