use Rattle.std.proofs.Common.{◌≡◌, ◌+◌, ◌≤◌, All, length, vec_items, vec_len, vec_capacity}
use Rattle.trial.specs.Ledger.{empty}
use Rattle.trial.specs.Trials.{lists_of, source_of}
use Rattle.trial.specs.Preparing.{Wide}
use Rattle.trial.proofs.Running.{Onward}
use Rattle.trial.proofs.prepared.Prepared.run.Given as goal

abbrev pub invariant-loop-call : goal.invariant-loop-call
invariant-loop-call g l =
    let R = g.S.RuleSource.meaning (source_of l.fn.self.desk.trial) in
    record {
      same : source_of l.desk.trial ≡ source_of l.fn.self.desk.trial;
      wide : All (Wide R.count) l.call-iterator.b.rest.items;
      enough : length l.call-iterator.a.rest.now ≤ length l.call-iterator.b.rest.items;
      room : vec_len l.replies + length l.call-iterator.a.rest.now ≤ vec_capacity l.replies;
      onward : Onward g.W.Measure.zero g.W.Measure.added g.W.Measure.at_most R (lists_of l.desk.trial) empty l.fn.calls l.call-iterator.a.rest.now (vec_items l.replies);
    }
