use Rattle.std.proofs.Common.{rules}
use Rattle.grants.proofs.places.AccountAt.is_let_in.Goals as goal

pub returns : goal.returns
returns c = rw (← c.name.ensures) (search rules)
