-- The cells of a matrix: where a pair stands, and what a write to one cell leaves.
use Rattle.std.proofs.Common.{◌≡◌, ℕ, ◌+◌, ◌*◌, ◌/◌, ◌%◌, ◌<◌, Bool, true, false, cond, ◌&&◌, eqb, ltb, List, length, get_or, set, sym, ap, ◌∙◌, arith, get_or-set_other, get_or-set_same}
use Rattle.std.proofs.lemmas.Bool.{ltb-true, and_parts}
use Rattle.std.proofs.lemmas.Bool.Decides.{nat_tests}
use Rattle.std.proofs.lemmas.Nat.{mul-add-lt, div-mul-add, mod-mul-add}

-- whether p grants g, by the cells
abbrev read : ℕ → List Bool → ℕ → ℕ → Bool
read n xs p g = (ltb p n && ltb g n) && get_or xs (g * n + p) false

cell_within : (n p g : ℕ) → (ltb p n && ltb g n) ≡ true → g * n + p < n * n
cell_within n p g h = let two = and_parts _ _ h in mul-add-lt g n p n (ltb-true _ _ two.1) (ltb-true _ _ two.0)

-- no two pairs stand in one cell
cell_apart : (n p g q h : ℕ) → p < n → q < n → h * n + q ≡ g * n + p → (q ≡ p) × (h ≡ g)
cell_apart n p g q h a b e =
    (sym (mod-mul-add h n q b) ∙ ap (λ k. k % n) e ∙ mod-mul-add g n p a, sym (div-mul-add h n q b) ∙ ap (λ k. k / n) e ∙ div-mul-add g n p a)

pub put_reads : (n : ℕ) (xs : List Bool) (p g i : ℕ) (b : Bool) → length xs ≡ n * n → (ltb p n && ltb g n) ≡ true → i ≡ g * n + p → (q h : ℕ) → read n (set xs i b) q h ≡ cond (eqb q p && eqb h g) b (read n xs q h)
put_reads n xs p g i b many ok at q h = grind (arith, nat_tests, get_or-set_same xs i b, get_or-set_other xs i (h * n + q) b, cell_apart n p g q h, cell_within n p g ok)
