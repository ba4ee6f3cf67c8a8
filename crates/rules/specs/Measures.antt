-- What a measure of chains is: a zero, a step added (crossing or not), and an order.
use Rattle.std.specs.Prelude.{◌≡◌, Bool, true, ◌⊎◌}

-- The five laws; nothing else is assumed of a measure.
pub record Measures {W : Type 0} (zero : W) (add : W → Bool → W) (at_most : W → W → Bool) : Type 0 where
  pub total : (x y : W) → (at_most x y ≡ true) ⊎ (at_most y x ≡ true)
  pub transitive : (x y z : W) → at_most x y ≡ true → at_most y z ≡ true → at_most x z ≡ true
  pub neither_above_are_equal : (x y : W) → at_most x y ≡ true → at_most y x ≡ true → x ≡ y
  pub adding_never_lowers : (x : W) (crossing : Bool) → at_most x (add x crossing) ≡ true
  pub adding_keeps_the_order : (x y : W) (crossing : Bool) → at_most x y ≡ true → at_most (add x crossing) (add y crossing) ≡ true
