-- A number that is read is the value of its digits. Assumes nothing.
use Rattle.std.proofs.Common.{◌≡◌, ℕ, suc, ◌+◌, ◌-◌, ◌*◌, ◌^◌, ◌<◌, ◌≤◌, Bool, true, false, cond, List, [], ◌∷◌, length, Some, None, Option, sym, refl, ap, ◌∙◌, mul_assoc, mul_comm, add-mul, mul-le-mul_left, mul-add, add-one, arith}
use native.Mathlib.Nat.{pow-le-pow_right, pow-succ', pow-zero}
use Rattle.std.proofs.lemmas.Bool.{and_from}
use Rattle.std.proofs.lemmas.Option.{none-some}
use Rattle.std.specs.List.{list_all}
use Rattle.text.specs.Bytes.{within, digit, octal, and_then, written}
use Rattle.text.specs.PartLaws.{positional, DigitsValue}

-- what the value of a byte says of the byte
digit_within : (last b v : ℕ) (t : Bool) → within 48 last b ≡ t → Some v ≡ cond t (Some (b - 48)) None → (within 48 last b ≡ true) × (v ≡ b - 48)
digit_within last b v true h e = let same : v ≡ b - 48 = cc in (h, same)
digit_within last b v false h e = absurd (none-some v (sym e))

place-value : (base n x k rest : ℕ) → (base * n + x) * base ^ k + rest ≡ n * base ^ suc k + (x * base ^ k + rest)
place-value base n x k rest =
    let power : n * base ^ suc k ≡ n * (base * base ^ k) = ap (λ m. n * m) (pow-succ' base k) in
    let moved : base * n * base ^ k ≡ n * (base * base ^ k) = ap (λ m. m * base ^ k) (mul_comm base n) ∙ mul_assoc n base (base ^ k) in
    omega (arith, add-mul (base * n) x (base ^ k))

module _ (d : ℕ → Option ℕ) (base last : ℕ) (told : (b v : ℕ) → Some v ≡ d b → (within 48 last b ≡ true) × (v ≡ b - 48)) where
  pub record Read (n : ℕ) (bs : List ℕ) (v : ℕ) : Type 0 where
    pub digits : list_all (within 48 last) bs ≡ true
    pub value : v ≡ n * base ^ length bs + positional base bs

  read_more : (n b x v : ℕ) (bs : List ℕ) → (within 48 last b ≡ true) × (x ≡ b - 48) → Read (base * n + x) bs v → Read n (b ∷ bs) v
  read_more n b x v bs h r = record {
    digits = and_from (within 48 last b) (list_all (within 48 last) bs) h.0 r.digits;
    value = r.value ∙ place-value base n x (length bs) (positional base bs) ∙ ap (λ y. n * base ^ suc (length bs) + (y * base ^ length bs + positional base bs)) h.1;
  }

  read_byte : (n b v : ℕ) (bs : List ℕ) (o : Option ℕ) → o ≡ d b → Some v ≡ and_then o (λ x. written d base (base * n + x) bs) → ((m : ℕ) → Some v ≡ written d base m bs → Read m bs v) → Read n (b ∷ bs) v
  read_byte n b v bs None e h next = absurd (none-some v (sym h))
  read_byte n b v bs (Some x) e h next = read_more n b x v bs (told b x e) (next (base * n + x) h)

  pub written_read : (n : ℕ) (bs : List ℕ) (v : ℕ) → Some v ≡ written d base n bs → Read n bs v
  written_read n [] v e =
      let same : v ≡ n = cc in
      let one : n * base ^ 0 ≡ n * 1 = ap (λ m. n * m) (pow-zero base) in
      record { digits = refl; value = omega arith }
  written_read n (b ∷ bs) v e = read_byte n b v bs (d b) refl e (λ m k. written_read m bs v k)

  pub digits_value : (bs : List ℕ) (v : ℕ) → Some v ≡ written d base 0 bs → DigitsValue base last bs v
  digits_value bs v e = let r = written_read 0 bs v e in record { digits = r.digits; value = r.value ∙ omega arith }

pub decimal-value : (bs : List ℕ) (v : ℕ) → Some v ≡ written digit 10 0 bs → DigitsValue 10 57 bs v
decimal-value = digits_value digit 10 57 (λ b x k. digit_within 57 b x (within 48 57 b) refl k)

pub octal-value : (bs : List ℕ) (v : ℕ) → Some v ≡ written octal 8 0 bs → DigitsValue 8 55 bs v
octal-value = digits_value octal 8 55 (λ b x k. digit_within 55 b x (within 48 55 b) refl k)

-- one digit more
grown : (base i n v : ℕ) → n < base ^ i → v < base → base * n + v < base ^ (i + 1)
grown base i n v h k = rw (add-one, pow-succ' base i) (omega (arith, mul-le-mul_left {m = n + 1} {n = base ^ i} base (omega arith), mul-add base n 1))

-- it fits where the number of all digits does
pub fits : (base i n v k top : ℕ) → n < base ^ i → v < base → i < k → base ^ k ≤ top → base * n + v < top
fits base i n v k top h small more room = omega (arith, grown base i n v h small, pow-le-pow_right {n = base} (omega arith) {i = i + 1} {j = k} (omega arith))

-- a number of four octal digits at most
pub eights : (k : ℕ) → k ≤ 4 → 8 ^ k ≤ 8 ^ 4
eights k h = pow-le-pow_right {n = 8} (omega arith) {i = k} {j = 4} h
