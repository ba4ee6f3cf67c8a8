-- One call more of a run.
use Rattle.std.proofs.Common.{◌≡◌, Bool, List, [], ◌∷◌, ◌++◌, append_assoc, append-nil}
use Rattle.rules.specs.Rules.{Rules}
use Rattle.trial.specs.Ledger.{Ledger}
use Rattle.trial.specs.Tables.{Tables, Stands}
use Rattle.trial.specs.Runs.{Replied, Ran, onward}
use Rattle.trial.specs.declared.calls.Call.{Call}
use Rattle.trial.specs.declared.calls.Reply.{Reply}

-- the replies so far lead on: whatever the calls that are left are replied to, the whole is a run
pub record Onward {W : Type 0} (z : W) (add : W → Bool → W) (at_most : W → W → Bool) (R : Rules) (T : Tables) (l : Ledger) (all left : List Call) (vs : List (Reply W)) : Type 0 where
  pub at : Ledger
  pub stands : Stands R T at
  pub whole : (ws : List (Reply W)) → Ran z add at_most R at left ws → Ran z add at_most R l all (vs ++ ws)

module _ {W : Type 0} (z : W) (add : W → Bool → W) (at_most : W → W → Bool) (R : Rules) (l : Ledger) (all : List Call) where
  pub run_none : (T : Tables) (left : List Call) (vs : List (Reply W)) → left ≡ all → vs ≡ [] → Stands R T l → Onward z add at_most R T l all left vs
  run_none T left vs isLeft none st = record { at = l; stands = st; whole = λ ws h. rw (none, ← isLeft) h }

  pub run_more : (T T' : Tables) (left left' : List Call) (vs vs' : List (Reply W)) (c : Call) (a : Reply W) → left ≡ c ∷ left' → vs' ≡ vs ++ a ∷ [] →
      ((m : Ledger) → Stands R T m → Replied z add at_most R m c a × Stands R T' (onward R m c)) →
      Onward z add at_most R T l all left vs → Onward z add at_most R T' l all left' vs'
  run_more T T' left left' vs vs' c a isLeft more one o =
      let here = one o.at o.stands in
      record { at = onward R o.at c; stands = here.1; whole = λ ws h. rw (more, append_assoc) (o.whole (a ∷ ws) (rw isLeft (here.0, h))) }

  pub run-all : (T : Tables) (left : List Call) (vs : List (Reply W)) → left ≡ [] → Onward z add at_most R T l all left vs → Ran z add at_most R l all vs
  run-all T left vs none o = rw append-nil at (o.whole [] (rw none tt))
