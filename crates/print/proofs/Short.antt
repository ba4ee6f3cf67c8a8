-- The printed lines fit their memory. Assumes nothing.
use Rattle.std.proofs.Common.{◌≡◌, ℕ, ◌^◌, ◌<◌, ◌≤◌, List, [], ◌++◌, length, decimal, ap, ◌∙◌, arith}
use Rattle.std.proofs.lemmas.List.{length-append}
use Rattle.std.proofs.lemmas.Fmt.{length-decimal-le}
use Rattle.bounded.specs.ArrayVecs.{Added}
use Rattle.bounded.proofs.Clips.{added_all}
use Rattle.print.specs.Lines.{plan_line, refusal_line}

pub decimal_short : (n : ℕ) → n < 2 ^ 32 → length (decimal n) ≤ 10
decimal_short n h = length-decimal-le 10 n (omega arith) (omega arith) (omega arith)

-- a list that began with nothing, and had room
pub fresh : {A : Type 0} {n : ℕ} {a b x : List A} → Added n a x b → a ≡ [] → length x ≤ n → b ≡ x
fresh {n = n} {a = a} {x = x} e z h = added_all e (omega (arith, ap length z)) ∙ ap (λ l. l ++ x) z

pub plan_line-short : (k : ℕ) (form : List ℕ) → k < 2 ^ 32 → length form ≤ 128 → length (plan_line k form) ≤ 160
plan_line-short k form h s = simp length-append (omega (arith, decimal_short k h))

pub refusal_line-short : (r l t h : ℕ) → r < 2 ^ 32 → l < 2 ^ 32 → t < 2 ^ 32 → h < 2 ^ 32 → length (refusal_line r l t h) ≤ 80
refusal_line-short r l t h a b c d = simp length-append (omega (arith, decimal_short r a, decimal_short l b, decimal_short t c, decimal_short h d))
