use Rattle.std.proofs.Common.{rules, tests}
use Rattle.std.proofs.lemmas.Bool.Decides.{nat_tests}
use Rattle.std.proofs.lemmas.Iterator.Search.{all_from_yields_List}
use Rattle.std.proofs.lemmas.Iterator.Consumers.{YieldsList-from_first}
use Rattle.text.specs.Bytes.{name}
use Rattle.text.specs.Parts.{fields_left}
use Rattle.tables.specs.GroupText.{members}
use Rattle.tables.proofs.groups.members.are_names.Goals as goal

pub returns-else-is_empty : goal.returns-else-is_empty
returns-else-is_empty c = all_from_yields_List {all = members c.args.list.now} name c.all.new.self _ _ c.all.ensures.ran (YieldsList-from_first (λ x. x.now) fields_left _ (search (rules, nat_tests))) (λ x b q k. search (rules, tests))
