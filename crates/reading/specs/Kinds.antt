-- Kinds of texts by number. Assumes nothing.
use Rattle.std.specs.Prelude.{◌≡◌, ℕ, ◌≤◌, Ok, Err, Result}
use Rattle.reading.specs.declared.fault.Kind.{Kind}
use Rattle.reading.specs.declared.fault.NoKind.{NoKind}
use Rattle.reading.specs.Faults.{kind_number}

-- the kind has that number, or the number lies past those of the seven kinds
abbrev pub KindNumbered : ℕ → Result Kind NoKind → Type 0
KindNumbered n (Ok k) = kind_number k ≡ n
KindNumbered n (Err e) = 7 ≤ n
