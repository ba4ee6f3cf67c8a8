use Rattle.std.proofs.Common.{rules}
use Rattle.text.proofs.PathLaws.{parent_below, parent_top, parent_none}
use Rattle.text.proofs.paths.parent_of.Goals as goal

pub returns-else-last-eq0 : goal.returns-else-last-eq0
returns-else-last-eq0 c = search (rules, parent_below)

pub returns-then-last-eq0 : goal.returns-then-last-eq0
returns-then-last-eq0 c = search (rules, parent_top, parent_none)
