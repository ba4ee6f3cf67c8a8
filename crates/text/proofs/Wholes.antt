-- A name and a path have few bytes. Assumes nothing.
use Rattle.std.proofs.Common.{◌≡◌, ℕ, ◌≤◌, true, List, length, arith}
use Rattle.std.proofs.lemmas.Bool.Decides.{nat_tests}
use Rattle.text.specs.Bytes.{name}
use Rattle.text.specs.Paths.{path}

pub name-short : (s : List ℕ) → name s ≡ true → length s ≤ 31
name-short s h = grind (arith, nat_tests)

pub path-short : (s : List ℕ) → path s ≡ true → length s ≤ 63
path-short s h = grind (arith, nat_tests)
