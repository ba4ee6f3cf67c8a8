use Rattle.std.proofs.Common.{◌≤◌, length, rules, arith}
use Rattle.text.proofs.Digits.{eights, octal-value}
use Rattle.text.proofs.numbers.mode_of.Goals as goal

pub written_in-requires-clause-fits : goal.written_in-requires-clause-fits
written_in-requires-clause-fits c = let few : length c.args.s.now ≤ 4 = omega arith in omega (arith, eights _ few)

pub overflow_cast-result : goal.overflow_cast-result
overflow_cast-result c = let few : length c.args.s.now ≤ 4 = omega arith in omega (arith, eights _ few, c.in_ok-n.ensures.below)

pub returns-clause-digits : goal.returns-clause-digits
returns-clause-digits c = octal-value _ _ (search rules)
