-- Memory of which the first entries are written over.
use Rattle.std.specs.Prelude.{List, [], ◌∷◌}

-- the first entries replaced, the others as they were
abbrev pub overlay : {X : Type 0} → List X → List X → List X
overlay [] ys = ys
overlay (x ∷ xs) [] = []
overlay (x ∷ xs) (y ∷ ys) = x ∷ overlay xs ys
