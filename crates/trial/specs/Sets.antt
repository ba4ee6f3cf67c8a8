-- Finite sets: who is in, and how many. And what it takes for a list to have the members of one.
use Rattle.std.specs.Prelude.{◌≡◌, ℕ, ◌+◌, ◌-◌, Bool, true, false, not, ◌&&◌, ◌||◌, List, [], ◌∷◌, length, ◌==◌}
use Rattle.std.specs.List.{list_any}

-- a finite set, by who belongs and how many do: no list, no order
pub record Members (X : Type 0) : Type 0 where
  pub has : X → Bool
  pub size : ℕ

-- the empty set
abbrev pub nobody : {X : Type 0} → Members X
nobody = record { has = λ _. false; size = 0 }

-- x, which does not belong yet, put in
abbrev pub joined : {X : Type 0} → (X → X → Bool) → X → Members X → Members X
joined e x s = record { has = λ y. s.has y || e x y; size = s.size + 1 }

-- x, which belongs, taken out
abbrev pub parted : {X : Type 0} → (X → X → Bool) → X → Members X → Members X
parted e x s = record { has = λ y. s.has y && not (e x y); size = s.size - 1 }

-- two pairs are the same
abbrev pub same_pair : ℕ × ℕ → ℕ × ℕ → Bool
same_pair x y = x.0 == y.0 && x.1 == y.1

module _ {X : Type 0} (e : X → X → Bool) where
  -- x stands in the list
  abbrev pub has : X → List X → Bool
  has x xs = list_any (λ y. e y x) xs

  -- none stands twice in it
  abbrev pub apart : List X → Bool
  apart [] = true
  apart (x ∷ xs) = not (has x xs) && apart xs

-- e tells equal from unequal
pub record Tells {X : Type 0} (e : X → X → Bool) : Type 0 where
  pub same : (x : X) → e x x ≡ true
  pub equal : (x y : X) → e x y ≡ true → x ≡ y

-- the list has the members of the set, each once
pub record Lists {X : Type 0} (e : X → X → Bool) (xs : List X) (s : Members X) : Type 0 where
  pub none_twice : apart e xs ≡ true
  pub same_members : (x : X) → s.has x ≡ has e x xs
  pub as_many : s.size ≡ length xs
