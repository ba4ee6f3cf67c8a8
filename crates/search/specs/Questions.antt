-- What a question promises: when it refuses, what its plan is, and what becomes of the memory that it is lent.
-- Chains go by any step relation, and the rules beside a plan by another, so that the same promise serves a source's own grants and the steps of a ledger.
use Rattle.std.specs.Prelude.{◌≡◌, ℕ, ◌<◌, ◌≤◌, Bool, true, false, ◌⊎◌, List, [], ◌∷◌, length, take, replicate, Ok, Err, Result, ◌≢◌, slice_index, slice_index_or}
use Rattle.rules.specs.Rules.{Rules}
use Rattle.rules.specs.Chains.{ChainBy, Least, weight_of}
use Rattle.rules.specs.declared.weights.Label.{Label}
use Rattle.search.specs.declared.answer.Refusal.{Refusal}
use Rattle.search.specs.declared.answer.Found.{Found}
use Rattle.search.specs.Lists.{overlay}
use Rattle.search.specs.Refusals.{refusal}

-- p is held: its byte is 1
abbrev pub HeldIn : List ℕ → ℕ → Type 0
HeldIn hs p = slice_index hs p ≡ 1

-- every byte of the held set is 0 or 1
abbrev pub Bits : List ℕ → Type 0
Bits hs = (k : ℕ) → k < length hs → slice_index hs k ≤ 1

-- a byte of the held set is neither
abbrev pub BadByte : List ℕ → Type 0
BadByte hs = (k : ℕ) × (k < length hs) × (1 < slice_index hs k)

-- the target and every held privilege are live
abbrev pub AllAlive : Rules → List ℕ → ℕ → Type 0
AllAlive R hs t = (R.live t ≡ true) × ((p : ℕ) → p < length hs → HeldIn hs p → R.live p ≡ true)

-- the target or a held privilege is not live
abbrev pub SomeDead : Rules → List ℕ → ℕ → Type 0
SomeDead R hs t = (R.live t ≡ false) ⊎ ((p : ℕ) × (p < length hs) × HeldIn hs p × (R.live p ≡ false))

-- no chain of any length leads from a held privilege to the target
abbrev pub Chainless : Rules → (ℕ → ℕ → ℕ → Type 0) → List ℕ → ℕ → Type 0
Chainless R step hs t = (ps : List ℕ) → ChainBy R step (HeldIn hs) t ps → ⊥

-- p is none of the privileges
abbrev pub Apart : ℕ → List ℕ → Type 0
Apart p [] = Unit {0}
Apart p (q ∷ qs) = (p ≢ q) × Apart p qs

-- no privilege stands twice
abbrev pub NoneTwice : List ℕ → Type 0
NoneTwice [] = Unit {0}
NoneTwice (p ∷ ps) = Apart p ps × NoneTwice ps

-- none of the privileges is held
abbrev pub NoneHeld : (ℕ → Type 0) → List ℕ → Type 0
NoneHeld held [] = Unit {0}
NoneHeld held (p ∷ ps) = (held p → ⊥) × NoneHeld held ps

-- the rules of the steps from p on, one for each
abbrev pub Ruled : (ℕ → ℕ → ℕ → Type 0) → ℕ → List ℕ → List ℕ → Type 0
Ruled by p [] [] = Unit {0}
Ruled by p [] (r ∷ rs) = ⊥
Ruled by p (g ∷ gs) [] = ⊥
Ruled by p (g ∷ gs) (r ∷ rs) = by p g r × Ruled by g gs rs

-- first and rest are a least plan, beside are the rules of its steps, and f is what is answered of it
pub record LeastPlan {W : Type 0} (z : W) (add : W → Bool → W) (at_most : W → W → Bool) (R : Rules) (step by : ℕ → ℕ → ℕ → Type 0) (held : ℕ → Type 0) (t first : ℕ) (rest beside : List ℕ) (f : Found W) : Type 0 where
  pub plan_is_a_chain : ChainBy R step held t (first ∷ rest)
  pub each_step_has_its_rule : Ruled by first rest beside
  pub plan_is_least : Least z add at_most R step held t f.weight
  pub weight_is_the_plans : f.weight ≡ weight_of z add R (first ∷ rest)
  pub steps_are_the_plans : f.steps ≡ length rest
  pub no_privilege_twice : NoneTwice (first ∷ rest)
  pub none_but_the_first_held : NoneHeld held rest
  pub shorter_than_the_count : length rest < R.count

-- such a plan is written over the one list, its rules over the other, and the entries past them stay
pub record Planned {W : Type 0} (z : W) (add : W → Bool → W) (at_most : W → W → Bool) (R : Rules) (step by : ℕ → ℕ → ℕ → Type 0) (held : ℕ → Type 0) (t : ℕ) (plan₀ plan rules₀ rules : List ℕ) (f : Found W) : Type 0 where
  pub first : ℕ
  pub rest : List ℕ
  pub beside : List ℕ
  pub is_a_least_plan : LeastPlan z add at_most R step by held t first rest beside f
  pub written_held_end_first : plan ≡ overlay (first ∷ rest) plan₀
  pub rules_written_beside : rules ≡ overlay (0 ∷ beside) rules₀

-- the memory lent suffices for n privileges
pub record Enough {W : Type 0} (n : ℕ) (hs ms : List ℕ) (ls : List (Label W)) (ps rs : List ℕ) : Type 0 where
  pub held : n ≤ length hs
  pub marks : n ≤ length ms
  pub labels : n ≤ length ls
  pub plan : n ≤ length ps
  pub rules : n ≤ length rs

-- the first says exactly what the second says
abbrev pub Exactly : Type 0 → Type 0 → Type 0
Exactly A B = (A → B) × (B → A)

-- answered: a well-formed question, and its plan; refused: the plan lists stay
abbrev pub PlannedOrLeft : {W : Type 0} → W → (W → Bool → W) → (W → W → Bool) → Rules → (ℕ → ℕ → ℕ → Type 0) → (ℕ → ℕ → ℕ → Type 0) → List ℕ → ℕ → List ℕ → List ℕ → List ℕ → List ℕ → Result (Found W) Refusal → Type 0
PlannedOrLeft z add at_most R step by hs t plan₀ plan rules₀ rules (Ok f) = Bits hs × AllAlive R hs t × Planned z add at_most R step by (HeldIn hs) t plan₀ plan rules₀ rules f
PlannedOrLeft z add at_most R step by hs t plan₀ plan rules₀ rules (Err e) = (plan ≡ plan₀) × (rules ≡ rules₀)

-- A question over R with the held bytes hs, of which the first n are the held set, and the target t:
-- ms are the marks, ls the labels, plan and rules the plan lists, before (with ₀) and after, and r the answer.
pub record Asked {W : Type 0} (z : W) (add : W → Bool → W) (at_most : W → W → Bool) (R : Rules) (step by : ℕ → ℕ → ℕ → Type 0) (hs : List ℕ) (t : ℕ) (ms₀ ms : List ℕ) (ls₀ ls : List (Label W)) (plan₀ plan rules₀ rules : List ℕ) (r : Result (Found W) Refusal) : Type 0 where
  pub short_memory_exactly_when_not_enough : Exactly (refusal r ≡ 1) (Enough R.count hs ms₀ ls₀ plan₀ rules₀ → ⊥)
  pub bad_byte_exactly_when_neither_0_nor_1 : Exactly (refusal r ≡ 16) (Enough R.count hs ms₀ ls₀ plan₀ rules₀ × BadByte (take R.count hs))
  pub not_live_exactly_when_some_is_dead : Exactly (refusal r ≡ 12) (Enough R.count hs ms₀ ls₀ plan₀ rules₀ × Bits (take R.count hs) × SomeDead R (take R.count hs) t)
  pub no_chain_exactly_when_none : Exactly (refusal r ≡ 13) (Enough R.count hs ms₀ ls₀ plan₀ rules₀ × Bits (take R.count hs) × AllAlive R (take R.count hs) t × Chainless R step (take R.count hs) t)
  pub planned_or_left : PlannedOrLeft z add at_most R step by (take R.count hs) t plan₀ plan rules₀ rules r
  pub short_memory_alters_nothing : refusal r ≡ 1 → (ms ≡ ms₀) × (ls ≡ ls₀)
  pub first_n_marks_end_zero : Enough R.count hs ms₀ ls₀ plan₀ rules₀ → ms ≡ overlay (replicate R.count 0) ms₀
  pub labels_keep_their_number : length ls ≡ length ls₀
  pub labels_past_n_stay : (k : ℕ) (d : Label W) → R.count ≤ k → slice_index_or ls k d ≡ slice_index_or ls₀ k d
