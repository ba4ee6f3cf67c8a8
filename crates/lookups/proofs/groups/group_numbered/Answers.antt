use Rattle.std.proofs.Common.{rules, tests}
use Rattle.std.proofs.lemmas.Iterator.{YieldsList-from_slice}
use Rattle.std.proofs.lemmas.Iterator.Search.{position_from_yields_List}
use Rattle.lookups.proofs.Maps.{position-map}
use Rattle.lookups.proofs.groups.group_numbered.Goals as goal

pub returns-clause-place : goal.returns-clause-place
returns-clause-place c = rw position-map (position_from_yields_List _ _ _ _ c.position.ensures.ran (YieldsList-from_slice c.args.rows.now cc) (λ x b q k. search (rules, tests)))
