use Rattle.search.proofs.Turning.{Best}
use Rattle.search.proofs.board.Board.select.Given as goal

abbrev pub invariant-loop-p : goal.invariant-loop-p
invariant-loop-p g l = let m = g.W.Measure in Best m.zero m.at_most l.self.marks.now l.self.labels.now l.p l.best
