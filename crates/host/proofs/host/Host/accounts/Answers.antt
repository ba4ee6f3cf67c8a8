use Rattle.std.proofs.Common.{length, ap, arith}
use Rattle.std.proofs.lemmas.List.{length-map}
use Rattle.tables.specs.Rows.{account_entry}
use Rattle.tables.proofs.AccountLaws.{accounts_sound}
use Rattle.host.proofs.host.Host.accounts.Goals as goal

pub returns-clause-few : goal.returns-clause-few
returns-clause-few c = omega (arith, length-map c.as_slice.result.now account_entry, ap length c.as_slice.ensures, (accounts_sound c.args.self.now.accounts.table).few)
