use Rattle.std.proofs.Common.{◌≡◌, map, length, take, sym, ap, ◌∙◌, arith, length-take}
use Rattle.std.proofs.lemmas.List.{length-map, take-map}
use Rattle.text.specs.Kept.{name_bytes}
use Rattle.tables.specs.HostsText.{hosts_of}
use Rattle.tables.proofs.HostLaws.{hosts_sound}
use Rattle.host.specs.Tables.{host_tables}
use Rattle.site.proofs.open.OpenSite.hosts.Goals as goal

pub returns : goal.returns
returns c =
    let s = c.args.self.now in
    let names = c.as_slice-count.result.now in
    let many : length names ≡ length (hosts_of s.names.table) = sym (length-map names name_bytes) ∙ ap length c.as_slice-count.ensures in
    let few = (hosts_sound s.names.table).few in
    record { entries = ap (λ n. map host_tables (take n s.hosts)) many ∙ sym (take-map host_tables _ s.hosts); few = simp length-take (omega arith) }
