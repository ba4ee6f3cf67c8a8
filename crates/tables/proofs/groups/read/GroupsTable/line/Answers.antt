use Rattle.std.proofs.Common.{rules}
use Rattle.region.specs.Sound.{GroupsSound}
use Rattle.tables.specs.declared.groups.Group.{Group}
use Rattle.tables.specs.Rows.{group_entry}
use Rattle.tables.specs.GroupText.{groups_of}
use Rattle.tables.proofs.GroupLaws.{groups_push}
use Rattle.tables.proofs.Pushes.{pushed}
use Rattle.tables.proofs.groups.read.GroupsTable.line.Goals as goal

pub invariant_of-self : goal.invariant_of-self
invariant_of-self c =
    let old = c.args.self.now in
    let group : Group = record { name = c.in_ok-head.head.name; number = c.in_ok-head.head.number; listed = c.in_ok-listed.listed } in
    record { sound = pushed group_entry GroupsSound 16 old.rows group old.sound (groups_push (groups_of old) (group_entry group) old.sound (search rules) (search rules)) c.push.new.self (search rules) }
