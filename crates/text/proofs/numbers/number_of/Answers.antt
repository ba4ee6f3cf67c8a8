use Rattle.std.proofs.Common.{rules}
use Rattle.text.proofs.Digits.{decimal-value}
use Rattle.text.proofs.numbers.number_of.Goals as goal

pub returns-in-Ok-clause-digits : goal.returns-in-Ok-clause-digits
returns-in-Ok-clause-digits c = decimal-value _ _ (search rules)
