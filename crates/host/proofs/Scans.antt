-- Looking through the entries of a table, and lists whose items all look alike. Assumes nothing.
use Rattle.std.proofs.Common.{◌≡◌, ℕ, zero, suc, ◌+◌, ◌<◌, Bool, List, [], ◌∷◌, ◌||◌, map, length, get_or, replicate, refl, ap, ◌∙◌, arith}
use Rattle.std.specs.List.{list_any, enumerate_from}

-- a test of rows with their places, and of the entries that they are
pub any-numbered : {X Y : Type 0} (view : X → Y) (test : ℕ × Y → Bool) (n : ℕ) (xs : List X) → list_any (λ p. test (p.0, view p.1)) (enumerate_from n xs) ≡ list_any test (enumerate_from n (map view xs))
any-numbered view test n [] = refl
any-numbered view test n (x ∷ xs) = ap (λ b. test (n, view x) || b) (any-numbered view test (n + 1) xs)

-- n items that all look alike
pub all-alike : {X Y : Type 0} (view : X → Y) (v : Y) (n : ℕ) (xs : List X) → length xs ≡ n → ((i : ℕ) (d : X) → i < n → view (get_or xs i d) ≡ v) → map view xs ≡ replicate n v
all-alike view v zero [] e h = refl
all-alike view v (suc n) [] e h = absurd (omega arith)
all-alike view v zero (x ∷ xs) e h = absurd (omega arith)
all-alike view v (suc n) (x ∷ xs) e h = ap (λ y. y ∷ map view xs) (h 0 x (omega arith)) ∙ ap (λ ys. v ∷ ys) (all-alike view v n xs (omega arith) (λ i d l. h (suc i) d (omega arith)))
