-- Printed lines, as bytes. Assumes nothing.
use Rattle.std.specs.Prelude.{ℕ, List, [], ◌∷◌, ◌++◌, codes, decimal}

-- a line of a plan: its number, a point, a blank, a form, and the line's end
abbrev pub plan_line : ℕ → List ℕ → List ℕ
plan_line k form = decimal k ++ (codes ". " ++ (form ++ 10 ∷ []))

-- the line that says that there is no chain
abbrev pub no_chain_line : List ℕ
no_chain_line = codes "No chain." ++ 10 ∷ []

-- the line of a refusal: its number, the line, the text and the host
abbrev pub refusal_line : ℕ → ℕ → ℕ → ℕ → List ℕ
refusal_line r l t h = codes "Refused " ++ (decimal r ++ (codes ", line " ++ (decimal l ++ (codes ", text " ++ (decimal t ++ (codes ", host " ++ (decimal h ++ (codes "." ++ 10 ∷ []))))))))
