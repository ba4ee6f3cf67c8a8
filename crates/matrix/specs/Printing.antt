-- The forms of operations are well formed, and no two are alike.
use Rattle.std.specs.Prelude.{◌≡◌, ℕ, Bool, true, false, cond, All, List, [], ◌++◌, drop, codes, decimal, nat_lt, refl}
use Rattle.std.proofs.Common.{ap, arith, length-append}
use Rattle.std.proofs.lemmas.Bool.Decides.{nat_tests}
use Rattle.std.proofs.lemmas.Fmt.{length-decimal-le, decimal_injective}
use Rattle.std.proofs.lemmas.List.Elements.{All-append, All-nil}
use Rattle.rules.specs.Names.{Printable, WellNamed}
use Rattle.rules.proofs.Naming.{printable_piece, printable_decimal}
use Rattle.matrix.specs.declared.table.Matrix.{Matrix}
use Rattle.matrix.specs.Grants.{matrix_rules}
use Rattle.matrix.specs.Forms.{operation_form}

-- what holds of each operation's form, and of none
by_live : (P : List ℕ → Type 0) (b : Bool) (xs : List ℕ) → (b ≡ true → P xs) → P [] → P (cond b xs [])
by_live P true xs h none = h refl
by_live P false xs h none = none

pub operations_named : (m : Matrix) → WellNamed (matrix_rules m) (operation_form m)
operations_named m = record {
  live_has_a_form = λ p h. grind (arith, nat_tests, length-append (codes "Operation ") (decimal p));
  dead_has_none = λ p h. grind (arith, nat_tests);
  at_most_128_bytes = λ p. grind (arith, nat_tests, m.few, length-append (codes "Operation ") (decimal p), length-decimal-le 3 p);
  printable = λ p. by_live (All Printable) (nat_lt p m.count) _
      (λ h. All-append Printable (codes "Operation ") (decimal p) (printable_piece (codes "Operation ") refl) (printable_decimal p (grind (arith, nat_tests, m.few))))
      (All-nil Printable);
  never_alike = λ p q live also e.
      let same : codes "Operation " ++ decimal p ≡ codes "Operation " ++ decimal q = grind (arith, nat_tests) in
      decimal_injective p q (grind (arith, nat_tests, m.few)) (grind (arith, nat_tests, m.few)) (ap (drop 10) same);
}
