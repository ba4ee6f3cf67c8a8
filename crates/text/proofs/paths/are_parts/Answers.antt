use Rattle.std.proofs.Common.{rules, tests}
use Rattle.std.proofs.lemmas.Iterator.Search.{all_from_yields_List}
use Rattle.std.proofs.lemmas.Iterator.Consumers.{YieldsList-from_first}
use Rattle.text.specs.Bytes.{part}
use Rattle.text.specs.Parts.{fields_left}
use Rattle.text.proofs.paths.are_parts.Goals as goal

pub returns : goal.returns
returns c = all_from_yields_List part c.all.new.self _ _ c.all.ensures.ran (YieldsList-from_first (λ x. x.now) fields_left _ c.fields.ensures.all) (λ x b q k. search (rules, tests))
