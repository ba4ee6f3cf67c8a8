-- The items of a bounded list, and what adding to one leaves. Assumes nothing.
use Rattle.std.specs.Prelude.{◌≡◌, ℕ, List, ◌++◌, take}
use Rattle.bounded.specs.declared.list.ArrayVec.{ArrayVec}

-- the items in their order
abbrev pub items_of : {A : Type 0} {n : ℕ} → ArrayVec A n → List A
items_of t = take t.len t.items

-- b is a and then x, as far as n items go
pub record Added {A : Type 0} (n : ℕ) (a x b : List A) : Type 0 where
  pub is : b ≡ take n (a ++ x)
