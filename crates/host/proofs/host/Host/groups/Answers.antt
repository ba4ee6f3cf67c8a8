use Rattle.std.proofs.Common.{length, ap, arith}
use Rattle.std.proofs.lemmas.List.{length-map}
use Rattle.tables.specs.Rows.{group_entry}
use Rattle.tables.proofs.GroupLaws.{groups_sound}
use Rattle.host.proofs.host.Host.groups.Goals as goal

pub returns-clause-few : goal.returns-clause-few
returns-clause-few c = omega (arith, length-map c.as_slice.result.now group_entry, ap length c.as_slice.ensures, (groups_sound c.args.self.now.groups.table).few)
