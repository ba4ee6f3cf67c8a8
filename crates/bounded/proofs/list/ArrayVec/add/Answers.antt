use Rattle.std.proofs.Common.{ap, ◌∙◌, append-nil, rules}
use Rattle.std.proofs.lemmas.List.{take_all, length-take-le}
use Rattle.bounded.specs.ArrayVecs.{items_of}
use Rattle.bounded.proofs.Clips.{add-room, add-full}
use Rattle.bounded.proofs.list.ArrayVec.add.Goals as goal
use Rattle.bounded.proofs.list.ArrayVec.add.Goals.{then-len, else-len}

pub loop-x-init : goal.loop-x-init
loop-x-init g c = search (rules, append-nil, take_all, length-take-le)

pub loop-x-preserved : goal.loop-x-preserved
loop-x-preserved g c = elim c.if-len.branch [
  | then-len w ↦ add-room g.row.N (items_of c.args.self.now) c.args.s.now (items_of c.loop-x.self) c.loop-x.x-index c.x-item.result c.loop-x-test.true c.x-item.is c.loop-x.invariant (items_of c.if-len.self) (search rules) (ap items_of w.self-is ∙ w.push.ensures)
  | else-len w ↦ ap items_of w.self-is ∙ add-full g.row.N (items_of c.args.self.now) c.args.s.now (items_of c.loop-x.self) c.loop-x.x-index c.x-item.result c.loop-x-test.true c.x-item.is c.loop-x.invariant (search rules)
]

pub returns : goal.returns
returns g c = record { is = search (rules, take_all) }
