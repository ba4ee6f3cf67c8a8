-- Marks in a list, and how many are settled.
use Rattle.std.proofs.Common.{◌≡◌, ℕ, ◌+◌, ◌<◌, cond, eqb, List, length, set, inl, inr, arith, length-set}
use Rattle.std.proofs.lemmas.Bool.{cases_lt, ne_eqb}
use Rattle.std.proofs.lemmas.List.{get_or_past}
use Rattle.std.proofs.lemmas.List.Sums.{count_by-le-length, sum_by-set}
use Rattle.search.specs.Labels.{mark}
use Rattle.search.specs.Trails.{settled}

pub within : (ms : List ℕ) (p : ℕ) → 0 < mark ms p → p < length ms
within ms p h = elim (cases_lt p (length ms)) [ inl lt ↦ lt | inr le ↦ absurd (omega (arith, get_or_past ms p 0 le)) ]

-- a mark written where none is settled
pub settled-set : (ms : List ℕ) (p v : ℕ) → p < length ms → (mark ms p ≡ 2 → ⊥) → settled (set ms p v) ≡ cond (eqb v 2) 1 0 + settled ms
settled-set ms p v lt nt =
    let e : settled (set ms p v) + cond (eqb (mark ms p) 2) 1 0 ≡ settled ms + cond (eqb v 2) 1 0 = sum_by-set (λ m. cond (eqb m 2) 1 0) ms p v 0 lt in
    omega (arith, rw (ne_eqb _ 2 nt) at e)

pub settled_less : (ms : List ℕ) (p : ℕ) → p < length ms → (mark ms p ≡ 2 → ⊥) → settled ms < length ms
settled_less ms p lt nt = omega (arith, settled-set ms p 2 lt nt, count_by-le-length (λ m. eqb m 2) (set ms p 2), length-set ms p 2)
