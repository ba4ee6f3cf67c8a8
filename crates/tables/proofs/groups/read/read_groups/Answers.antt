use Rattle.std.proofs.Common.{[], length, refl}
use Rattle.text.specs.Cuts.{lines}
use Rattle.tables.specs.PasswdText.{accounts_of}
use Rattle.tables.specs.GroupText.{group_step}
use Rattle.tables.proofs.Counts.{accepted, counted}
use Rattle.tables.proofs.GroupLaws.{group_grows}
use Rattle.tables.proofs.Listed.{members-listed}
use Rattle.tables.proofs.groups.read.read_groups.Goals as goal

pub returns-clause-counted : goal.returns-clause-counted
returns-clause-counted c =
    let accounts = accounts_of c.args.accounts.now in
    λ ok. counted (group_step accounts) [] _ c.args.text.now c.read_text.ensures.held _ _ c.read_text.ensures.told ok length refl (group_grows accounts)

pub returns-clause-members : goal.returns-clause-members
returns-clause-members c =
    let accounts = accounts_of c.args.accounts.now in
    λ ok. members-listed accounts c.args.accounts.now.sound (lines c.args.text.now) _ (accepted (group_step accounts) [] _ c.args.text.now c.read_text.ensures.held _ _ c.read_text.ensures.told ok)
