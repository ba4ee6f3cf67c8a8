use Rattle.std.proofs.Common.{◌≡◌, map, length, take}
use Rattle.text.specs.Kept.{name_bytes}
use Rattle.host.specs.Tables.{host_tables, unread_tables}
use Rattle.site.proofs.open.hosts.begin_hosts.Given as goal

abbrev pub invariant-loop-i : goal.invariant-loop-i
invariant-loop-i l = (length l.hosts ≡ 8) × (take l.i (map host_tables l.hosts) ≡ take l.i (map unread_tables (map name_bytes l.names)))
