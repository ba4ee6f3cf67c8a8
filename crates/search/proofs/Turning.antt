-- The loops over slots and labels, one turn at a time.
use Rattle.std.proofs.Common.{◌≡◌, ℕ, ◌+◌, Bool, List, Some, None, Option, ap₂, ◌∙◌, add-one}
use Rattle.rules.specs.Rules.{Rules}
use Rattle.rules.specs.Chains.{crosses}
use Rattle.rules.specs.declared.weights.Label.{Label}
use Rattle.search.specs.declared.board.Board.{Board}
use Rattle.search.specs.Boards.{state, Becomes}
use Rattle.search.specs.Labels.{label, improved, relaxed, Selected}

-- a slot that holds p
pub relaxed-next : {W : Type 0} (z : W) (add : W → Bool → W) (at_most : W → W → Bool) (R : Rules) (q : ℕ) (base : W) (k p r : ℕ) (old mid new : Board W) (l : Label W) →
    R.slot q k ≡ Some (p, r) → l ≡ record { weight = add base (crosses R p q); next = q; rule = r } →
    Becomes old mid (relaxed z add at_most R q base k (state old)) → Becomes mid new (improved z at_most (state mid) p l) → Becomes old new (relaxed z add at_most R q base (k + 1) (state old))
relaxed-next z add at_most R q base k p r old mid new l slot is so_far step = record {
  memory = record { marks = step.memory.marks ∙ so_far.memory.marks; labels = step.memory.labels ∙ so_far.memory.labels; as_many = step.memory.as_many ∙ so_far.memory.as_many };
  holds = rw (add-one, slot) (step.holds ∙ ap₂ (λ s x. improved z at_most s p x) so_far.holds is);
}

-- the least of the labels below i that are not settled, with its weight
abbrev pub Best : {W : Type 0} → W → (W → W → Bool) → List ℕ → List (Label W) → ℕ → Option (ℕ × W) → Type 0
Best z at_most ms ls i None = Selected z at_most ms ls i None
Best z at_most ms ls i (Some (q, w)) = Selected z at_most ms ls i (Some q) × (w ≡ (label z ls q).weight)
