use Rattle.std.proofs.Common.{◌≡◌, ℕ, ◌^◌, ◌<◌, Option, drop}
use Rattle.text.specs.Bytes.{written}
use Rattle.text.proofs.numbers.written_in.Given as goal

abbrev pub invariant-loop-b : goal.invariant-loop-b
invariant-loop-b g l =
    ((d : ℕ → Option ℕ) → ((b r : _) → goal.F-post g l.digit b r → r ≡ d b) → written d l.base l.n (drop l.b-index l.s) ≡ written d l.base 0 l.s)
    × (l.n < l.base ^ l.b-index)
