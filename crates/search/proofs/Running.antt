-- A turn of the search's loop, and its two ends.
use Rattle.std.proofs.Common.{◌≡◌, ℕ, ◌-◌, ◌<◌, Bool, true, List, length, set, Some, None, arith}
use Rattle.rules.specs.Rules.{Rules, Lawful}
use Rattle.rules.specs.Measures.{Measures}
use Rattle.rules.specs.Chains.{Grants, ChainBy}
use Rattle.rules.specs.declared.weights.Label.{Label}
use Rattle.search.specs.Labels.{mark, label, State, relaxed, Selected}
use Rattle.search.specs.Trails.{settled, Kept, All}
use Rattle.search.specs.Plans.{Arrived}
use Rattle.search.proofs.Counting.{within, settled_less}
use Rattle.search.proofs.Keeping.{turn-keeps, no-chain, least-chain}

module _ {W : Type 0} {z : W} {add : W → Bool → W} {at_most : W → W → Bool} (laws : Measures z add at_most) (R : Rules) (lawful : Lawful R) (held : ℕ → Type 0) (t : ℕ) (old : List (Label W)) (s : State W) (kept : Kept z add at_most R held t old All s) where
  module _ (q : ℕ) (chosen : Selected z at_most s.0 s.1 (length s.0) (Some q)) where
    lowest : (p : ℕ) → mark s.0 p ≡ 1 → at_most (label z s.1 q).weight (label z s.1 p).weight ≡ true
    lowest p m = chosen.2 p (within s.0 p (omega arith)) m

    pub run-on : (held q → ⊥) → (s' : State W) → s' ≡ relaxed z add at_most R q (label z s.1 q).weight R.width (set s.0 q 2, s.1) →
        Kept z add at_most R held t old All s' × (length s'.0 - settled s'.0 < length s.0 - settled s.0)
    run-on free s' is =
        let turn = turn-keeps laws R lawful t held old s kept q chosen.1 lowest free in
        rw is (turn.0, omega (arith, turn.0.many, kept.many, turn.1, settled_less s.0 q chosen.0 (λ e. omega (arith, chosen.1))))

    pub run-found : held q → Arrived z add at_most R held t s q
    run-found h =
        let trail = kept.trails q (omega (arith, chosen.1)) in
        record {
          is_held = h;
          within = omega (arith, chosen.0, kept.many, kept.room);
          trail = trail;
          short = omega (arith, trail.short, kept.many, settled_less s.0 q chosen.0 (λ e. omega (arith, chosen.1)));
          least = least-chain laws R lawful t held old s kept q chosen.1 lowest;
          unheld = kept.unheld;
        }

  pub run-none : Selected z at_most s.0 s.1 (length s.0) None → (ps : List ℕ) → ChainBy R (Grants R) held t ps → ⊥
  run-none none = no-chain laws R lawful t held old s kept (λ p m. none p (within s.0 p (omega arith)) m)
