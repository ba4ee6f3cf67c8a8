-- Which operation of a matrix grants which, what its calls do to that, and what it means as a rule source.
use Rattle.std.specs.Prelude.{◌≡◌, ℕ, ◌+◌, ◌*◌, ◌<◌, ◌≤◌, Bool, true, false, cond, ◌&&◌, Some, None, Ok, Err, vec_items, Result, ◌==◌, nat_lt, slice_index_or}
use Rattle.rules.specs.Rules.{Rules}
use Rattle.matrix.specs.declared.table.Matrix.{Matrix}
use Rattle.matrix.specs.declared.refusal.Refusal.{Refusal}
use Rattle.matrix.specs.declared.refusal.Refusal.TheVariants.{NotLive}
use Rattle.matrix.specs.declared.refusal.Unmade.{Unmade}
use Rattle.matrix.specs.declared.refusal.Unmade.TheVariants.{TooMany, NoMemory}

-- the number of each refusal; want of memory has none
abbrev pub unmade_number : Unmade → ℕ
unmade_number TooMany = 8
unmade_number NoMemory = 0

abbrev pub number : Refusal → ℕ
number NotLive = 12

-- both are operations of the matrix
abbrev pub inside : Matrix → ℕ → ℕ → Bool
inside m p g = nat_lt p m.count && nat_lt g m.count

-- p grants g
abbrev pub grants : Matrix → ℕ → ℕ → Bool
grants m p g = inside m p g && slice_index_or (vec_items m.cells) (g * m.count + p) false

-- a matrix of so many operations without a grant, or the number by which none is made
abbrev pub Made : ℕ → Result Matrix Unmade → Type 0
Made n (Ok m) = (m.count ≡ n) × (n ≤ 256) × ((p g : ℕ) → grants m p g ≡ false)
Made n (Err e) = (unmade_number e ≡ 8 → 256 < n) × (256 < n → unmade_number e ≡ 8)

-- whether p grants g, or 12 where one of them is no operation
abbrev pub Read : Matrix → ℕ → ℕ → Result Bool Refusal → Type 0
Read m p g (Ok b) = (inside m p g ≡ true) × (b ≡ grants m p g)
Read m p g (Err e) = (number e ≡ 12) × (inside m p g ≡ false)

-- from now on p grants g as b tells, and of no other pair anything changes; or 12, and the matrix stays
abbrev pub Put : Bool → ℕ → ℕ → Matrix → Matrix → Result (Unit {0}) Refusal → Type 0
Put b p g m₀ m (Ok u) = (inside m₀ p g ≡ true) × (m.count ≡ m₀.count) × ((q h : ℕ) → grants m q h ≡ cond (q == p && h == g) b (grants m₀ q h))
Put b p g m₀ m (Err e) = (number e ≡ 12) × (inside m₀ p g ≡ false) × (m ≡ m₀)

-- the matrix as a rule source: every operation is live, at place 0, and slot k of g holds k by rule 201 if k grants g
abbrev pub matrix_rules : Matrix → Rules
matrix_rules m = record {
  count = m.count;
  width = m.count;
  live = λ p. nat_lt p m.count;
  place = λ p. 0;
  slot = λ g k. cond (grants m k g) (Some (k, 201)) None;
}
