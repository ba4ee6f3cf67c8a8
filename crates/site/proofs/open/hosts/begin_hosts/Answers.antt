use Rattle.std.proofs.Common.{arith, length-set}
use Rattle.site.proofs.Begun.{begun-more}
use Rattle.site.proofs.open.hosts.begin_hosts.Goals as goal

pub loop-i-preserved : goal.loop-i-preserved
loop-i-preserved c = (simp length-set c.loop-i.invariant.0, begun-more c.loop-i.hosts c.args.names.now c.loop-i.i _ _ (omega arith) c.loop-i-test.true c.index-names-i.is c.begin.ensures c.loop-i.invariant.1)
