use Rattle.std.proofs.Common.{◌-◌, length}
use Rattle.search.proofs.Writing.{Written}
use Rattle.search.proofs.write.write_plan.Given as goal

abbrev pub invariant-loop-at : goal.invariant-loop-at
invariant-loop-at g l = Written g.W.Measure.zero l.labels l.target l.from l.fn.plan l.fn.rules l.at l.steps l.plan l.rules

abbrev pub decreases-loop-at : goal.decreases-loop-at
decreases-loop-at g l = length l.fn.plan - l.steps
