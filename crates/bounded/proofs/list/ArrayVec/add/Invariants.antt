use Rattle.std.proofs.Common.{◌≡◌, ◌++◌, take}
use Rattle.bounded.specs.ArrayVecs.{items_of}
use Rattle.bounded.proofs.list.ArrayVec.add.Given as goal

abbrev pub invariant-loop-x : goal.invariant-loop-x
invariant-loop-x g l = items_of l.self ≡ take g.row.N (items_of l.initial.self ++ take l.x-index l.s)
