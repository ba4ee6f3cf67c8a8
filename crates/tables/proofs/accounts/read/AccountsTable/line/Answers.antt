use Rattle.std.proofs.Common.{rules}
use Rattle.region.specs.Sound.{AccountsSound}
use Rattle.tables.specs.Rows.{account_entry}
use Rattle.tables.specs.PasswdText.{accounts_of}
use Rattle.tables.proofs.AccountLaws.{accounts_push}
use Rattle.tables.proofs.Pushes.{pushed}
use Rattle.tables.proofs.accounts.read.AccountsTable.line.Goals as goal

pub invariant_of-self : goal.invariant_of-self
invariant_of-self c =
    let old = c.args.self.now in
    let account = c.in_ok-account.account in
    record { sound = pushed account_entry AccountsSound 16 old.rows account old.sound (accounts_push (accounts_of old) (account_entry account) old.sound (search rules) (search rules)) c.push.new.self (search rules) }
