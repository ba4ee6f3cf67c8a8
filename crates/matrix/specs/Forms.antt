-- How an operation is printed.
use Rattle.std.specs.Prelude.{ℕ, cond, List, [], ◌++◌, codes, decimal, nat_lt}
use Rattle.matrix.specs.declared.table.Matrix.{Matrix}

-- `Operation` and the operation's number in decimal digits
abbrev pub operation_form : Matrix → ℕ → List ℕ
operation_form m p = cond (nat_lt p m.count) (codes "Operation " ++ decimal p) []
