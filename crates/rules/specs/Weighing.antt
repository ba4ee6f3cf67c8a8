-- Both measures keep the five laws.
use Rattle.std.specs.Prelude.{◌≡◌, ◌≤◌, Bool, true, false}
use Rattle.std.proofs.Common.{arith}
use mathlib.Core.HLevel.{is_prop→PathP, ×_prop}
use Rattle.std.proofs.Math.Bridge.{le_prop}
use Rattle.std.proofs.lemmas.Bool.Decides.{nat_tests}
use Rattle.rules.specs.declared.weights.Steps.{Steps}
use Rattle.rules.specs.declared.weights.Crossings.{Crossings}
use Rattle.rules.specs.Measures.{Measures}
use Rattle.rules.specs.Weights.{no_steps, steps_added, steps_at_most, no_crossings, crossings_added, crossings_at_most}

-- weights with equal numbers are equal
pub steps_same : (x y : Steps) → x.count ≡ y.count → x ≡ y
steps_same x y p = λ i. record { count = p i; fits = is_prop→PathP (λ j. p j ≤ 65535) (λ j. le_prop) x.fits y.fits i }

pub crossings_same : (x y : Crossings) → x.crossings ≡ y.crossings → x.steps ≡ y.steps → x ≡ y
crossings_same x y p q = λ i. record { crossings = p i; steps = q i; fits = is_prop→PathP (λ j. (p j ≤ 65535) × (q j ≤ 65535)) (λ j. ×_prop le_prop le_prop) x.fits y.fits i }

pub steps_measures : Measures no_steps steps_added steps_at_most
steps_measures = record {
  total = λ x y. grind (arith, nat_tests);
  transitive = λ x y z p q. grind (arith, nat_tests);
  neither_above_are_equal = λ x y p q. steps_same x y (grind (arith, nat_tests));
  adding_never_lowers = λ x b. grind (arith, nat_tests, x.fits);
  adding_keeps_the_order = λ x y b p. grind (arith, nat_tests);
}

never_lowers : (x : Crossings) (b : Bool) → crossings_at_most x (crossings_added x b) ≡ true
never_lowers x false = grind (arith, nat_tests, x.fits)
never_lowers x true = grind (arith, nat_tests, x.fits)

keeps_order : (x y : Crossings) (b : Bool) → crossings_at_most x y ≡ true → crossings_at_most (crossings_added x b) (crossings_added y b) ≡ true
keeps_order x y false h = grind (arith, nat_tests, x.fits, y.fits)
keeps_order x y true h = grind (arith, nat_tests, x.fits, y.fits)

pub crossings_measures : Measures no_crossings crossings_added crossings_at_most
crossings_measures = record {
  total = λ x y. grind (arith, nat_tests);
  transitive = λ x y z p q. grind (arith, nat_tests);
  neither_above_are_equal = λ x y p q. crossings_same x y (grind (arith, nat_tests)) (grind (arith, nat_tests));
  adding_never_lowers = never_lowers;
  adding_keeps_the_order = keeps_order;
}
