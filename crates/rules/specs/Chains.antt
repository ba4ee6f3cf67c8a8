-- Grants, chains of them, what a chain weighs, and what is least.
-- Chains go by any step relation, step p g r for "p grants g by rule r", so that one definition serves a source's own grants and any other steps over the same privileges.
use Rattle.std.specs.Prelude.{◌≡◌, ℕ, ◌<◌, Bool, true, not, List, [], ◌∷◌, Some, ◌==◌, ◌≢◌}
use Rattle.rules.specs.Rules.{Rules}

-- p grants g by rule r: a slot of g holds the two
abbrev pub Grants : Rules → ℕ → ℕ → ℕ → Type 0
Grants R p g r = (k : ℕ) × (R.slot g k ≡ Some (p, r))

-- p grants g by rule r, and r is that of g's lowest slot that holds p
abbrev pub GrantsFirst : Rules → ℕ → ℕ → ℕ → Type 0
GrantsFirst R p g r = (k : ℕ) × (R.slot g k ≡ Some (p, r)) × ((j e : ℕ) → j < k → R.slot g j ≢ Some (p, e))

-- from p by the privileges of the list to the target, a step of some rule to each
abbrev pub LeadsBy : (ℕ → ℕ → ℕ → Type 0) → ℕ → List ℕ → ℕ → Type 0
LeadsBy step p [] t = p ≡ t
LeadsBy step p (g ∷ gs) t = ((r : ℕ) × step p g r) × LeadsBy step g gs t

-- every one of the privileges is live
abbrev pub AllLive : Rules → List ℕ → Type 0
AllLive R [] = Unit {0}
AllLive R (p ∷ ps) = (R.live p ≡ true) × AllLive R ps

-- a chain by the steps: live privileges, the first held, the last the target, each granting the next; one alone is a chain, none is not
abbrev pub ChainBy : Rules → (ℕ → ℕ → ℕ → Type 0) → (ℕ → Type 0) → ℕ → List ℕ → Type 0
ChainBy R step held t [] = ⊥
ChainBy R step held t (p ∷ ps) = held p × AllLive R (p ∷ ps) × LeadsBy step p ps t

-- whether a step from p to g goes from one place to another
abbrev pub crosses : Rules → ℕ → ℕ → Bool
crosses R p g = not (R.place p == R.place g)

-- the weight from p on by the privileges of the list: their steps added to the zero, from the target back
abbrev pub weight_from : {W : Type 0} → W → (W → Bool → W) → Rules → ℕ → List ℕ → W
weight_from zero add R p [] = zero
weight_from zero add R p (g ∷ gs) = add (weight_from zero add R g gs) (crosses R p g)

-- what a chain weighs
abbrev pub weight_of : {W : Type 0} → W → (W → Bool → W) → Rules → List ℕ → W
weight_of zero add R [] = zero
weight_of zero add R (p ∷ ps) = weight_from zero add R p ps

-- no chain by the steps, of any length, weighs less than w
abbrev pub Least : {W : Type 0} → W → (W → Bool → W) → (W → W → Bool) → Rules → (ℕ → ℕ → ℕ → Type 0) → (ℕ → Type 0) → ℕ → W → Type 0
Least zero add at_most R step held t w = (ps : List ℕ) → ChainBy R step held t ps → at_most w (weight_of zero add R ps) ≡ true
