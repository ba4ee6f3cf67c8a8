use Rattle.std.proofs.Common.{rules}
use Rattle.grants.proofs.places.AccountAt.by_trust.Goals as goal

pub returns-in_err-rule : goal.returns-in_err-rule
returns-in_err-rule c = rw (← c.in_ok-host.ensures.tables, ← c.in_ok-user.ensures.entry) (search rules)

pub returns : goal.returns
returns c = rw (← c.in_ok-host.ensures.tables, ← c.in_ok-user.ensures.entry) (search rules)
