use Rattle.std.proofs.Common.{rules, tests}
use Rattle.std.proofs.lemmas.Iterator.Search.{any_from_yields_List}
use Rattle.tables.specs.Rows.{group_entry}
use Rattle.tables.specs.GroupText.{group_given}
use Rattle.tables.proofs.Views.{seen}
use Rattle.tables.proofs.groups.read.is_given.Goals as goal

pub returns : goal.returns
returns c = any_from_yields_List (group_given c.args.name.now c.args.number) _ _ _ c.any.ensures.ran (seen group_entry _ (search rules)) (λ x b q k. search (rules, tests))
