-- A table's rows, gone over one by one, are seen as the entries that they say. Assumes nothing.
use Rattle.std.proofs.Common.{◌≡◌, List, map, Iter, ap}
use Rattle.std.proofs.lemmas.Fn.{fronts}
use Rattle.std.proofs.lemmas.Iterator.{YieldsList}
use Rattle.std.proofs.lemmas.Iterator.Consumers.{YieldsList-from_shown}
use Rattle.std.proofs.lemmas.List.{length-map}

pub seen : {X Y : Type 0} (view : X → Y) {s : Iter X} (ys : List Y) → map view s.rest.now ≡ ys → YieldsList fronts (λ x. view x.now) s ys
seen view {s = s} ys e = rw (← e) (YieldsList-from_shown fronts (λ x. view x.now) (λ s. map view s.rest.now) (λ s t h. rw length-map h.0) (λ s x t h. ap (map view) h) s)
