use Rattle.std.proofs.Common.{rules}
use Rattle.trial.proofs.Standing.{carried}
use Rattle.trial.proofs.trials.Trial.change.Goals as goal

pub returns-in-Assume-clause-agrees : goal.returns-in-Assume-clause-agrees
returns-in-Assume-clause-agrees g c = carried _ _ _ _ _ (search rules) (search rules)

pub returns-in-Withdraw-clause-agrees : goal.returns-in-Withdraw-clause-agrees
returns-in-Withdraw-clause-agrees g c = carried _ _ _ _ _ (search rules) (search rules)

pub returns-in-Bar-clause-agrees : goal.returns-in-Bar-clause-agrees
returns-in-Bar-clause-agrees g c = carried _ _ _ _ _ (search rules) (search rules)

pub returns-in-Lift-clause-agrees : goal.returns-in-Lift-clause-agrees
returns-in-Lift-clause-agrees g c = carried _ _ _ _ _ (search rules) (search rules)
