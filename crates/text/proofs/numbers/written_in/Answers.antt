use Rattle.std.proofs.Common.{◌<◌, rules, arith}
use Rattle.text.proofs.Digits.{fits}
use Rattle.text.proofs.numbers.written_in.Goals as goal

pub overflow_mul-n : goal.overflow_mul-n
overflow_mul-n g c =
    let small : c.in_ok-v.v < c.args.base = search rules in
    omega (arith, fits _ _ _ _ _ _ c.loop-b.invariant.1 small c.loop-b-test.true c.requires.fits)

pub overflow_add-n : goal.overflow_add-n
overflow_add-n g c =
    let small : c.in_ok-v.v < c.args.base = search rules in
    omega (arith, fits _ _ _ _ _ _ c.loop-b.invariant.1 small c.loop-b-test.true c.requires.fits)
