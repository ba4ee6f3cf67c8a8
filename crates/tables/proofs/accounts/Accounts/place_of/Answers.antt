use Rattle.std.proofs.Common.{rules, tests}
use Rattle.std.proofs.lemmas.Iterator.Search.{position_from_yields_List}
use Rattle.tables.specs.Rows.{account_entry}
use Rattle.tables.specs.PasswdText.{account_named}
use Rattle.tables.proofs.Views.{seen}
use Rattle.tables.proofs.accounts.Accounts.place_of.Goals as goal

pub returns-clause-place : goal.returns-clause-place
returns-clause-place c = position_from_yields_List (account_named c.args.name.now) _ _ _ c.position.ensures.ran (seen account_entry _ (search rules)) (λ x b q k. search (rules, tests))
