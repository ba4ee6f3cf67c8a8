-- Forms that keep to the law of names: their bytes, and the forms of a source that lies over another.
use Rattle.std.proofs.Common.{◌≡◌, ℕ, ◌+◌, ◌%◌, ◌^◌, ◌<◌, Bool, true, ◌&&◌, leb, All, List, [], decimal, arith}
use Rattle.std.specs.List.{list_all}
use Rattle.std.proofs.lemmas.Bool.{leb-true, and_parts}
use Rattle.std.proofs.lemmas.Fmt.{decimal_by_steps}
use Rattle.std.proofs.lemmas.List.Elements.{All-nil, All-cons, All-push, All-weaker}
use Rattle.std.proofs.lemmas.List.Sums.{AllPass-from_list_all}
use Rattle.std.proofs.lemmas.Nat.{mod_below}
use Rattle.rules.specs.Names.{Printable, WellNamed}
use Rattle.rules.specs.Rules.{Rules}

abbrev pub printable_byte : ℕ → Bool
printable_byte b = leb 32 b && leb b 126

-- fixed pieces of a form, looked through by computing
pub printable_piece : (bs : List ℕ) → list_all printable_byte bs ≡ true → All Printable bs
printable_piece bs e =
    All-weaker (λ b. printable_byte b ≡ true) Printable (λ b h. let two = and_parts (leb 32 b) (leb b 126) h in (leb-true 32 b two.0, leb-true b 126 two.1)) bs (AllPass-from_list_all printable_byte bs e)

pub printable_decimal : (n : ℕ) → n < 2 ^ 64 → All Printable (decimal n)
printable_decimal n h =
    decimal_by_steps (λ m ds. All Printable ds)
    (λ m lt. All-cons Printable (48 + m) [] (omega arith, omega arith) (All-nil Printable))
    (λ m ds le all. All-push Printable ds (48 + m % 10) all (omega arith, omega (arith, mod_below m 10 (omega arith))))
    n h

-- a source whose live privileges are those of another, and print as there, is well named as that is
pub passed_on : {R Q : Rules} {form : ℕ → List ℕ} → R.live ≡ Q.live → WellNamed R form → WellNamed Q form
passed_on e below = record {
  live_has_a_form = λ p h. below.live_has_a_form p (cc);
  dead_has_none = λ p h. below.dead_has_none p (cc);
  at_most_128_bytes = below.at_most_128_bytes;
  printable = below.printable;
  never_alike = λ p q h k. below.never_alike p q (cc) (cc);
}
