-- The ledger of a trial: which pairs are assumed and which privileges are barred, and what follows from that over a source.
use Rattle.std.specs.Prelude.{◌≡◌, ℕ, Bool, true, false, cond, ◌&&◌, ◌⊎◌, is_ok, Ok, Err, nat_eq, nat_lt}
use Rattle.rules.specs.Rules.{Rules}
use Rattle.rules.specs.Chains.{Grants, GrantsFirst}
use Rattle.layers.specs.Layers.{room}
use Rattle.layers.specs.Answers.{Verdict}
use Rattle.trial.specs.Sets.{Members, nobody, joined, parted, same_pair}
use Rattle.trial.specs.declared.calls.Change.{Change}
use Rattle.trial.specs.declared.calls.Change.TheVariants.{Assume, Withdraw, Bar, Lift}

-- two sets
pub record Ledger : Type 0 where
  pub assumed : Members (ℕ × ℕ)
  pub barred : Members ℕ

-- nothing assumed, nothing barred
abbrev pub empty : Ledger
empty = record { assumed = nobody; barred = nobody }

abbrev pub accepted : Verdict
accepted = Ok tt

abbrev pub refused_by : ℕ → Verdict
refused_by n = Err n

-- an entry is added: 12 not live, 14 already there, 15 no room, in this order
abbrev pub adds : Bool → Bool → Bool → Verdict
adds live there space = cond live (cond there (refused_by 14) (cond space accepted (refused_by 15))) (refused_by 12)

-- an entry is taken out: 12 not live, 14 not there, in this order
abbrev pub takes : Bool → Bool → Verdict
takes live there = cond live (cond there accepted (refused_by 14)) (refused_by 12)

-- whether the ledger accepts a change, or the number by which it refuses
abbrev pub verdict : Rules → Ledger → Change → Verdict
verdict R l (Assume p g) = adds (R.live p && R.live g) (l.assumed.has (p, g)) (nat_lt l.assumed.size (room R))
verdict R l (Withdraw p g) = takes (R.live p && R.live g) (l.assumed.has (p, g))
verdict R l (Bar p) = adds (R.live p) (l.barred.has p) (nat_lt l.barred.size 32)
verdict R l (Lift p) = takes (R.live p) (l.barred.has p)

-- the sets once a change is accepted
abbrev pub entered : Ledger → Change → Ledger
entered l (Assume p g) = record { assumed = joined same_pair (p, g) l.assumed; barred = l.barred }
entered l (Withdraw p g) = record { assumed = parted same_pair (p, g) l.assumed; barred = l.barred }
entered l (Bar p) = record { assumed = l.assumed; barred = joined nat_eq p l.barred }
entered l (Lift p) = record { assumed = l.assumed; barred = parted nat_eq p l.barred }

-- the ledger after a change: a refused one leaves the sets
abbrev pub next : Rules → Ledger → Change → Ledger
next R l c = cond (is_ok (verdict R l c)) (entered l c) l

-- p grants g by rule r: by the source or, under rule 200, as an assumed pair, and never to or from a barred privilege
abbrev pub LedgerGrants : Rules → Ledger → ℕ → ℕ → ℕ → Type 0
LedgerGrants R l p g r = (l.barred.has p ≡ false) × (l.barred.has g ≡ false) × (Grants R p g r ⊎ ((r ≡ 200) × (l.assumed.has (p, g) ≡ true)))

-- the rule that a plan tells of such a step: that of the source's lowest slot, and 200 only where the source has none
abbrev pub LedgerRule : Rules → Ledger → ℕ → ℕ → ℕ → Type 0
LedgerRule R l p g r = (l.barred.has p ≡ false) × (l.barred.has g ≡ false) × (GrantsFirst R p g r ⊎ ((r ≡ 200) × (l.assumed.has (p, g) ≡ true) × ((e : ℕ) → Grants R p g e → ⊥)))
