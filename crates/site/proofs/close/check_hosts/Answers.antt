use Rattle.std.proofs.Common.{rules}
use Rattle.site.proofs.Checking.{check-here, check-later}
use Rattle.site.proofs.close.check_hosts.Goals as goal

pub returns-in-Some : goal.returns-in-Some
returns-in-Some c = search (rules, check-here)

pub loop-i-preserved : goal.loop-i-preserved
loop-i-preserved c = search (rules, check-later)
