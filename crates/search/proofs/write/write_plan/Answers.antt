use Rattle.std.proofs.Common.{arith}
use Rattle.search.proofs.Writing.{ahead, write-first, write-on, write-done}
use Rattle.search.proofs.write.write_plan.Goals as goal

pub loop-at-init : goal.loop-at-init
loop-at-init g c = write-first _ _ _ _ _ _ c.requires

pub offset_bounds-labels-at : goal.offset_bounds-labels-at
offset_bounds-labels-at g c = omega (arith, (ahead _ _ _ _ _ _ _ _ _ _ c.loop-at.invariant c.loop-at-test.true).0)

pub bounds-labels-at : goal.bounds-labels-at
bounds-labels-at g c = (ahead _ _ _ _ _ _ _ _ _ _ c.loop-at.invariant c.loop-at-test.true).0

pub loop-at-preserved : goal.loop-at-preserved
loop-at-preserved g c = write-on _ _ _ _ _ _ _ _ _ _ c.loop-at.invariant c.loop-at-test.true _ c.index-labels-at.is

pub returns : goal.returns
returns g c = write-done _ _ _ _ _ _ _ _ _ _ c.loop-at.invariant c.loop-at-test.false c.index-labels-from.result
