use Rattle.std.proofs.Common.{◌≡◌, length}
use Rattle.text.specs.Parts.{fields_left}
use Rattle.tables.specs.PasswdText.{accounts_of}
use Rattle.tables.specs.GroupText.{members, listed_from, listed_in}
use Rattle.tables.proofs.groups.members.listed_in.Given as goal

abbrev pub invariant-loop-member : goal.invariant-loop-member
invariant-loop-member l = (listed_from (accounts_of l.accounts) l.listed (fields_left l.member-iterator) ≡ listed_in (accounts_of l.accounts) (members l.list)) × (length l.listed ≡ 16)
