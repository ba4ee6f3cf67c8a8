-- The first privilege that a search finds. Assumes nothing.
use Rattle.std.proofs.Common.{◌≡◌, ℕ, ◌<◌, ◌≤◌, Bool, true, false, ◌&&◌, List, Some, None, Option, zero-le, arith}
use Rattle.std.specs.Option.{MatchOption}
use Rattle.std.specs.Str.{bytes_eq}
use Rattle.std.proofs.lemmas.Slice.Eq.{bytes_eq-Decides}
use Rattle.std.proofs.lemmas.Bool.{and_parts, and_from, both_ways}
use Rattle.rules.specs.Rules.{Rules, Lawful}
use Rattle.print.specs.Forms.{PrintedBy}

module _ (R : Rules) (form : ℕ → List ℕ) (line : List ℕ) where
  -- the test of the search
  abbrev pub prints : ℕ → Bool
  prints p = R.live p && bytes_eq (form p) line

  -- what the search answers over all privileges
  pub printed_by : Lawful R → (n : ℕ) (r : Option ℕ) → n ≡ R.count → MatchOption r ((k : ℕ) → 0 ≤ k → k < n → prints k ≡ false) (λ i. (0 ≤ i) × (i < n) × (prints i ≡ true) × ((k : ℕ) → 0 ≤ k → k < i → prints k ≡ false)) → PrintedBy R form line r
  printed_by l n (Some p) all h = let two = and_parts (R.live p) (bytes_eq (form p) line) h.2 in (two.0, (bytes_eq-Decides (form p) line).0 two.1)
  printed_by l n None all h = λ p live e.
      let few : p < R.count = l.live_below_count p live in
      both_ways (prints p) (h p zero-le (omega (arith, few))) (and_from (R.live p) _ live ((bytes_eq-Decides (form p) line).1 e))
