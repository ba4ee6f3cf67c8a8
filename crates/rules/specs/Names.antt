-- What the printed forms of a source's privileges keep to.
use Rattle.std.specs.Prelude.{◌≡◌, ℕ, ◌≤◌, true, false, All, List, [], length}
use Rattle.rules.specs.Rules.{Rules}

-- A byte from the blank to the tilde, so that no form has a line's end in it.
abbrev pub Printable : ℕ → Type 0
Printable b = (32 ≤ b) × (b ≤ 126)

-- The forms, by privilege: 1 to 128 bytes for a live one, none for a dead one, and no two live ones print alike.
pub record WellNamed (R : Rules) (form : ℕ → List ℕ) : Type 0 where
  pub live_has_a_form : (p : ℕ) → R.live p ≡ true → 1 ≤ length (form p)
  pub dead_has_none : (p : ℕ) → R.live p ≡ false → form p ≡ []
  pub at_most_128_bytes : (p : ℕ) → length (form p) ≤ 128
  pub printable : (p : ℕ) → All Printable (form p)
  pub never_alike : (p q : ℕ) → R.live p ≡ true → R.live q ≡ true → form p ≡ form q → p ≡ q
