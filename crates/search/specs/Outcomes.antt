-- The ways out of a question, case by case, as its inner functions tell them over memory that suffices.
use Rattle.std.specs.Prelude.{◌≡◌, ℕ, ◌<◌, ◌≤◌, Bool, true, false, List, Ok, Err, Result, slice_index}
use Rattle.rules.specs.Rules.{Rules}
use Rattle.rules.specs.Chains.{Grants}
use Rattle.rules.specs.declared.weights.Label.{Label}
use Rattle.search.specs.declared.answer.Refusal.{Refusal}
use Rattle.search.specs.declared.answer.Refusal.TheVariants.{ShortMemory, BadHeldByte, NotLive, NoChain}
use Rattle.search.specs.Questions.{HeldIn, Bits, BadByte, AllAlive, SomeDead, Chainless}
use Rattle.search.specs.Plans.{Arrived}

-- of the first i held bytes: each is 0 or 1, and dead tells whether one of them holds what is not live
pub record LookedAt (R : Rules) (hs : List ℕ) (i : ℕ) (dead : Bool) : Type 0 where
  pub bits : (k : ℕ) → k < i → slice_index hs k ≤ 1
  pub found : dead ≡ true → (p : ℕ) × (p < i) × HeldIn hs p × (R.live p ≡ false)
  pub none : dead ≡ false → (p : ℕ) → p < i → HeldIn hs p → R.live p ≡ true

-- the held set and the target, judged
abbrev pub Judged : Rules → List ℕ → ℕ → Result (Unit {0}) Refusal → Type 0
Judged R hs t (Ok u) = Bits hs × AllAlive R hs t
Judged R hs t (Err ShortMemory) = ⊥
Judged R hs t (Err BadHeldByte) = BadByte hs
Judged R hs t (Err NotLive) = Bits hs × SomeDead R hs t
Judged R hs t (Err NoChain) = ⊥

-- the search's end, and the labels after it
abbrev pub Searched : {W : Type 0} → W → (W → Bool → W) → (W → W → Bool) → Rules → List ℕ → ℕ → List (Label W) → Result ℕ Refusal → Type 0
Searched z add at_most R hs t ls (Ok q) = Judged R hs t (Ok tt) × ((ms : List ℕ) × Arrived z add at_most R (HeldIn hs) t (ms, ls) q)
Searched z add at_most R hs t ls (Err ShortMemory) = ⊥
Searched z add at_most R hs t ls (Err BadHeldByte) = Judged R hs t (Err BadHeldByte)
Searched z add at_most R hs t ls (Err NotLive) = Judged R hs t (Err NotLive)
Searched z add at_most R hs t ls (Err NoChain) = Judged R hs t (Ok tt) × Chainless R (Grants R) hs t
