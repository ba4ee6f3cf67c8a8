use Rattle.std.proofs.Common.{rules}
use Rattle.text.specs.Kept.{name_bytes}
use Rattle.tables.specs.Rows.{HostNamesSound}
use Rattle.tables.specs.HostsText.{hosts_of}
use Rattle.tables.proofs.HostLaws.{hosts_push}
use Rattle.tables.proofs.Pushes.{pushed}
use Rattle.tables.proofs.hosts.read.HostNamesTable.line.Goals as goal

pub invariant_of-self : goal.invariant_of-self
invariant_of-self c =
    let old = c.args.self.now in
    let host = c.in_ok-host.host in
    record { sound = pushed name_bytes HostNamesSound 8 old.rows host old.sound (hosts_push (hosts_of old) (name_bytes host) old.sound (search rules) (search rules)) c.push.new.self (search rules) }
