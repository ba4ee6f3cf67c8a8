-- What the readers of all kinds share: adding a row. Assumes nothing.
use Rattle.std.specs.Prelude.{ℕ, List, [], ◌∷◌, ◌++◌, length, Ok, Result, nat_lt}
use Rattle.reading.specs.declared.fault.Refusal.{Refusal}
use Rattle.reading.specs.declared.fault.Refusal.TheVariants.{Full}
use Rattle.reading.specs.Reads.{needs}

-- the rows with one more, in a table that has room for most
abbrev pub with_row : {X : Type 0} → ℕ → List X → X → Result (List X) Refusal
with_row most rows x = needs Full (nat_lt (length rows) most) (Ok (rows ++ (x ∷ [])))
