use Rattle.allows.proofs.ExactLaw.{allowed_exactly}
use Rattle.allows.proofs.exact.allowed_exactly.Goals as goal

pub returns : goal.returns
returns c = allowed_exactly
