-- A matrix keeps the laws of a rule source.
use Rattle.std.specs.Prelude.{refl}
use Rattle.std.proofs.Common.{arith}
use Rattle.std.proofs.lemmas.Bool.Decides.{nat_tests}
use Rattle.rules.specs.Rules.{Lawful}
use Rattle.matrix.specs.declared.table.Matrix.{Matrix}
use Rattle.matrix.specs.Grants.{matrix_rules}

pub matrix_lawful : (m : Matrix) → Lawful (matrix_rules m)
matrix_lawful m = record {
  count_at_most_8192 = omega (arith, m.few);
  width_at_most_1024 = omega (arith, m.few);
  place_at_most_255 = λ p. omega arith;
  live_below_count = λ p h. grind (arith, nat_tests);
  place_0_from_count_on = λ p h. refl;
  dead_holds_nothing = λ g k h. grind (arith, nat_tests);
  nothing_from_width_on = λ g k h. grind (arith, nat_tests);
  slot_leads_to_live = λ g k p r e. grind (arith, nat_tests);
}
