-- The marks and labels of a search, and what one slot and one privilege do to them.
use Rattle.std.specs.Prelude.{◌≡◌, ℕ, zero, suc, ◌<◌, Bool, true, cond, not, ◌&&◌, ◌||◌, List, length, replicate, Some, None, Option, ◌==◌, ◌≢◌, slice_index, slice_index_or, slice_set}
use Rattle.rules.specs.Rules.{Rules}
use Rattle.rules.specs.Chains.{crosses}
use Rattle.rules.specs.declared.weights.Label.{Label}
use Rattle.search.specs.declared.board.TheConstants.{UNREACHED, LABELLED}

abbrev pub mark : List ℕ → ℕ → ℕ
mark ms p = slice_index ms p

abbrev pub blank : {W : Type 0} → W → Label W
blank z = record { weight = z; next = 0; rule = 0 }

abbrev pub label : {W : Type 0} → W → List (Label W) → ℕ → Label W
label z ls p = slice_index_or ls p (blank z)

-- whether a label is to be written at p: none yet, or one of more weight that is not settled
abbrev pub better : {W : Type 0} → W → (W → W → Bool) → List ℕ → List (Label W) → ℕ → Label W → Bool
better z at_most ms ls p l = mark ms p == UNREACHED || (mark ms p == LABELLED && not (at_most (label z ls p).weight l.weight))

abbrev pub State : Type 0 → Type 0
State W = List ℕ × List (Label W)

-- no mark but the target's, whose label has no weight
abbrev pub begun : {W : Type 0} → W → ℕ → State W → State W
begun z t s = (slice_set (replicate (length s.0) UNREACHED) t LABELLED, slice_set s.1 t (record { weight = z; next = t; rule = 0 }))

-- the label written at p, if it is to be
abbrev pub improved : {W : Type 0} → W → (W → W → Bool) → State W → ℕ → Label W → State W
improved z at_most s p l = cond (better z at_most s.0 s.1 p l) (slice_set s.0 p LABELLED, slice_set s.1 p l) s

abbrev pub at_slot : {W : Type 0} → W → (W → Bool → W) → (W → W → Bool) → Rules → ℕ → W → Option (ℕ × ℕ) → State W → State W
at_slot z add at_most R q base None s = s
at_slot z add at_most R q base (Some e) s = improved z at_most s e.0 (record { weight = add base (crosses R e.0 q); next = q; rule = e.1 })

-- the slots of q below k, one after another
abbrev pub relaxed : {W : Type 0} → W → (W → Bool → W) → (W → W → Bool) → Rules → ℕ → W → ℕ → State W → State W
relaxed z add at_most R q base zero s = s
relaxed z add at_most R q base (suc k) s = at_slot z add at_most R q base (R.slot q k) (relaxed z add at_most R q base k s)

-- the least of the labels below i that are not settled
abbrev pub Selected : {W : Type 0} → W → (W → W → Bool) → List ℕ → List (Label W) → ℕ → Option ℕ → Type 0
Selected z at_most ms ls i None = (p : ℕ) → p < i → mark ms p ≢ LABELLED
Selected z at_most ms ls i (Some q) = (q < i) × (mark ms q ≡ LABELLED) × ((p : ℕ) → p < i → mark ms p ≡ LABELLED → at_most (label z ls q).weight (label z ls p).weight ≡ true)
