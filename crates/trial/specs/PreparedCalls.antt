-- What a list of prepared calls is run over.
use Rattle.std.specs.Prelude.{List}
use Rattle.rules.specs.declared.source.RuleSource.{Ghosts}
use Rattle.trial.specs.Runs.{source_under}
use Rattle.trial.specs.declared.calls.Call.{Call}
use Rattle.trial.specs.declared.prepared_calls.PreparedCalls.{PreparedCalls}

module _ {S W : Type 0} {G : Ghosts S} where
  -- the source that the run is over
  abbrev pub source_below : PreparedCalls S W G → S
  source_below d = source_under d.prepared

  -- the calls, in their order
  abbrev pub calls_of : PreparedCalls S W G → List Call
  calls_of d = d.calls.now
