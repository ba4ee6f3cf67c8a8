use Rattle.std.proofs.Common.{[], length, refl}
use Rattle.tables.specs.PasswdText.{account_step}
use Rattle.tables.proofs.AccountLaws.{account_grows}
use Rattle.tables.proofs.Counts.{counted}
use Rattle.tables.proofs.accounts.read.read_accounts.Goals as goal

pub returns-clause-counted : goal.returns-clause-counted
returns-clause-counted c = λ ok. counted account_step [] _ c.args.text.now c.read_text.ensures.held _ _ c.read_text.ensures.told ok length refl account_grows
