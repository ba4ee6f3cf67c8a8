use Rattle.std.proofs.Common.{rules, tests}
use Rattle.std.proofs.lemmas.Iterator.Search.{position_from_yields_List}
use Rattle.text.specs.Kept.{name_bytes}
use Rattle.tables.specs.HostsText.{host_named}
use Rattle.tables.proofs.Views.{seen}
use Rattle.tables.proofs.hosts.HostNames.place_of.Goals as goal

pub returns-clause-place : goal.returns-clause-place
returns-clause-place c = position_from_yields_List (host_named c.args.name.now) _ _ _ c.position.ensures.ran (seen name_bytes _ (search rules)) (λ x b q k. search (rules, tests))
