-- What a rule source means, and the laws that every source keeps.
use Rattle.std.specs.Prelude.{◌≡◌, ℕ, ◌<◌, ◌≤◌, Bool, true, false, Some, None, Option}

-- How many privileges and slots there are, which privileges are live, where each is, and what its slots hold:
-- slot g k ≡ Some (p, r) says that p grants g by rule r.
pub record Rules : Type 0 where
  pub count : ℕ
  pub width : ℕ
  pub live : ℕ → Bool
  pub place : ℕ → ℕ
  pub slot : ℕ → ℕ → Option (ℕ × ℕ)

-- The laws of a source.
pub record Lawful (R : Rules) : Type 0 where
  pub count_at_most_8192 : R.count ≤ 8192
  pub width_at_most_1024 : R.width ≤ 1024
  pub place_at_most_255 : (p : ℕ) → R.place p ≤ 255
  pub live_below_count : (p : ℕ) → R.live p ≡ true → p < R.count
  pub place_0_from_count_on : (p : ℕ) → R.count ≤ p → R.place p ≡ 0
  pub dead_holds_nothing : (g k : ℕ) → R.live g ≡ false → R.slot g k ≡ None
  pub nothing_from_width_on : (g k : ℕ) → R.width ≤ k → R.slot g k ≡ None
  pub slot_leads_to_live : (g k p r : ℕ) → R.slot g k ≡ Some (p, r) → R.live p ≡ true
