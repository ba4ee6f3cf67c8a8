use Rattle.std.proofs.Common.{[], length, refl}
use Rattle.tables.specs.HostsText.{host_step}
use Rattle.tables.proofs.Counts.{counted_entries}
use Rattle.tables.proofs.HostLaws.{host_grows}
use Rattle.tables.proofs.hosts.read.read_hosts.Goals as goal

pub returns-clause-counted : goal.returns-clause-counted
returns-clause-counted c = λ ok. counted_entries host_step [] _ c.args.text.now c.read_text.ensures.held _ _ c.read_text.ensures.told ok length refl host_grows
