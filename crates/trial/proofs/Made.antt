-- What a closure makes, one after another.
use Rattle.std.proofs.Common.{◌≡◌, List, [], ◌∷◌, subst}
use Rattle.std.specs.List.{FoldsTo, All}
use Rattle.std.proofs.lemmas.List.Elements.{All-nil, All-cons}

-- a closure that changes none of its captures: what holds of each thing that it makes holds of all
pub all_made : {F X : Type 0} (P : X → Type 0) (step : F → X → F → Type 0) (f last : F) (xs : List X) → ((x : X) (g : F) → step f x g → (g ≡ f) × P x) → FoldsTo step f xs last → All P xs
all_made P step f last [] one h = All-nil P
all_made P step f last (x ∷ xs) one (g, s, h) = let made = one x g s in All-cons P x xs made.1 (all_made P step f last xs one (subst (λ e. FoldsTo step e xs last) made.0 h))
