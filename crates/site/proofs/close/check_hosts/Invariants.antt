use Rattle.std.proofs.Common.{◌≡◌, map, drop}
use Rattle.host.specs.Tables.{host_tables}
use Rattle.site.specs.Checks.{checked, checked_from}
use Rattle.site.proofs.close.check_hosts.Given as goal

abbrev pub invariant-loop-i : goal.invariant-loop-i
invariant-loop-i l = checked_from l.i (map host_tables (drop l.i l.hosts)) ≡ checked (map host_tables l.hosts)
