-- A run replies to its first call. Assumes nothing.
use Rattle.std.proofs.Common.{◌≡◌, ◌<◌, Bool, List, [], ◌∷◌, length, None, arith, sym}
use Rattle.std.specs.Prelude.{slice_get}
use Rattle.std.proofs.lemmas.Option.{none-some}
use Rattle.rules.specs.Rules.{Rules}
use Rattle.trial.specs.Ledger.{Ledger}
use Rattle.trial.specs.Runs.{Ran}
use Rattle.trial.specs.declared.calls.Call.{Call}
use Rattle.trial.specs.declared.calls.Reply.{Reply}

pub first_is_replied : {W : Type 0} (z : W) (add : W → Bool → W) (at_most : W → W → Bool) (R : Rules) (l : Ledger) (cs : List Call) (rs : List (Reply W)) → Ran z add at_most R l cs rs → 0 < length cs → slice_get rs 0 ≡ None → ⊥
first_is_replied z add at_most R l [] rs r h n = omega (arith, h)
first_is_replied z add at_most R l (c ∷ cs) [] r h n = r
first_is_replied z add at_most R l (c ∷ cs) (a ∷ more) r h n = absurd (none-some _ (sym n))
