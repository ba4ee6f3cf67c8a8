use Rattle.std.proofs.Common.{◌≡◌}
use Rattle.search.specs.Outcomes.{LookedAt}
use Rattle.search.proofs.judge.judge.Given as goal

abbrev pub invariant-loop-b : goal.invariant-loop-b
invariant-loop-b g l = (l.p ≡ l.b-index) × LookedAt (g.S.RuleSource.meaning l.source) l.held l.b-index l.dead
