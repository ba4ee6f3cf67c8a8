-- Which privilege a printed line names. Assumes nothing.
use Rattle.std.specs.Prelude.{◌≡◌, ℕ, true, List, Some, None, Option, ◌≢◌}
use Rattle.rules.specs.Rules.{Rules}

-- the live privilege that prints the line, or none where no live privilege does
abbrev pub PrintedBy : Rules → (ℕ → List ℕ) → List ℕ → Option ℕ → Type 0
PrintedBy R form line (Some p) = (R.live p ≡ true) × (form p ≡ line)
PrintedBy R form line None = (p : ℕ) → R.live p ≡ true → form p ≢ line
