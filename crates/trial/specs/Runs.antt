-- Whole runs: a list of calls, what each is replied, and the ledger that is fed the same calls.
use Rattle.std.specs.Prelude.{◌≡◌, ℕ, ◌<◌, ◌≤◌, Bool, List, [], ◌∷◌, length, take, Ok, Err, vec_items, vec_len, Result}
use Rattle.rules.specs.Rules.{Rules}
use Rattle.rules.specs.declared.source.RuleSource.{Ghosts}
use Rattle.search.specs.Questions.{HeldIn, Bits, BadByte, AllAlive, SomeDead, Chainless, LeastPlan, Exactly}
use Rattle.search.specs.Refusals.{refusal}
use Rattle.search.specs.declared.answer.Refusal.{Refusal as Unanswered}
use Rattle.layers.specs.Answers.{numbered}
use Rattle.trial.specs.Ledger.{Ledger, LedgerGrants, LedgerRule, verdict, next}
use Rattle.trial.specs.Trials.{source_of}
use Rattle.trial.specs.declared.calls.Call.{Call}
use Rattle.trial.specs.declared.calls.Call.TheVariants.{Change, Ask}
use Rattle.trial.specs.declared.calls.Reply.{Reply}
use Rattle.trial.specs.declared.calls.Reply.TheVariants.{Changed, Asked}
use Rattle.trial.specs.declared.calls.Plan.{Plan}
use Rattle.trial.specs.declared.prepared.Prepared.{Prepared}

module _ {S W : Type 0} {G : Ghosts S} where
  -- the source that a run is over
  abbrev pub source_under : Prepared S W G → S
  source_under d = source_of d.desk.trial

  -- there is memory for so many calls; that the trial is bare, and that the memory of each plan suffices, is in the type
  abbrev pub Ready : ℕ → Prepared S W G → Type 0
  Ready many d = many ≤ vec_len d.plans

-- the plan that is replied is a least plan by the ledger, with its rules beside it
pub record Told {W : Type 0} (z : W) (add : W → Bool → W) (at_most : W → W → Bool) (R : Rules) (l : Ledger) (held : ℕ → Type 0) (t : ℕ) (a : Plan W) : Type 0 where
  pub first : ℕ
  pub rest : List ℕ
  pub beside : List ℕ
  pub privileges_held_end_first : vec_items a.privileges ≡ first ∷ rest
  pub rules_beside_them : vec_items a.rules ≡ 0 ∷ beside
  pub is_a_least_plan : LeastPlan z add at_most R (LedgerGrants R l) (LedgerRule R l) held t first rest beside a.found

-- a question is well formed: enough held bytes, each of the held set 0 or 1, and the target and the held privileges live
abbrev pub WellFormed : Rules → List ℕ → ℕ → Type 0
WellFormed R hs t = (R.count ≤ length hs) × Bits (take R.count hs) × AllAlive R (take R.count hs) t

-- where a question is answered, it is well formed and the plan is as told
abbrev pub ToldIfAnswered : {W : Type 0} → W → (W → Bool → W) → (W → W → Bool) → Rules → Ledger → List ℕ → ℕ → Result (Plan W) Unanswered → Type 0
ToldIfAnswered z add at_most R l hs t (Ok a) = WellFormed R hs t × Told z add at_most R l (HeldIn (take R.count hs)) t a
ToldIfAnswered z add at_most R l hs t (Err e) = Unit {0}

-- what is answered to a question at a ledger
pub record Says {W : Type 0} (z : W) (add : W → Bool → W) (at_most : W → W → Bool) (R : Rules) (l : Ledger) (hs : List ℕ) (t : ℕ) (r : Result (Plan W) Unanswered) : Type 0 where
  pub short_exactly_when_held_bytes_are_missing : Exactly (refusal r ≡ 1) (length hs < R.count)
  pub bad_byte_exactly_when_neither_0_nor_1 : Exactly (refusal r ≡ 16) ((R.count ≤ length hs) × BadByte (take R.count hs))
  pub not_live_exactly_when_some_is_dead : Exactly (refusal r ≡ 12) ((R.count ≤ length hs) × Bits (take R.count hs) × SomeDead R (take R.count hs) t)
  pub no_chain_exactly_when_none : Exactly (refusal r ≡ 13) (WellFormed R hs t × Chainless R (LedgerGrants R l) (take R.count hs) t)
  pub told_if_answered : ToldIfAnswered z add at_most R l hs t r

-- the ledger after a call: a question leaves it
abbrev pub onward : Rules → Ledger → Call → Ledger
onward R l (Change c) = next R l c
onward R l (Ask hs t) = l

-- the reply to a call at a ledger: to a change the ledger's own verdict, to a question what is true of the ledger
abbrev pub Replied : {W : Type 0} → W → (W → Bool → W) → (W → W → Bool) → Rules → Ledger → Call → Reply W → Type 0
Replied z add at_most R l (Change c) (Changed r) = numbered r ≡ verdict R l c
Replied z add at_most R l (Change c) (Asked a) = ⊥
Replied z add at_most R l (Ask hs t) (Changed r) = ⊥
Replied z add at_most R l (Ask hs t) (Asked a) = Says z add at_most R l hs.now t a

-- each call of the list is replied to at the ledger of that moment, and none is left out
abbrev pub Ran : {W : Type 0} → W → (W → Bool → W) → (W → W → Bool) → Rules → Ledger → List Call → List (Reply W) → Type 0
Ran z add at_most R l [] [] = Unit {0}
Ran z add at_most R l [] (a ∷ more) = ⊥
Ran z add at_most R l (c ∷ cs) [] = ⊥
Ran z add at_most R l (c ∷ cs) (a ∷ more) = Replied z add at_most R l c a × Ran z add at_most R (onward R l c) cs more
