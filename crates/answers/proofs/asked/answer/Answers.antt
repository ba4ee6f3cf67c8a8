use Rattle.std.proofs.Common.{rules}
use Rattle.trial.specs.Ledger.{empty}
use Rattle.trial.specs.PreparedCalls.{calls_of, source_below}
use Rattle.answers.proofs.Replies.{first_is_replied}
use Rattle.answers.proofs.asked.answer.Goals as goal

pub unreachable-requires : goal.unreachable-requires
unreachable-requires g c =
    first_is_replied g.W.Measure.zero g.W.Measure.added g.W.Measure.at_most (g.S.RuleSource.meaning (source_below c.in_ok-prepared.prepared)) empty (calls_of c.in_ok-prepared.prepared) c.run-done.result.replies.items
    c.run-done.ensures.ran (search rules) (search rules)
