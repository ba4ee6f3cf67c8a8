use Rattle.std.proofs.Common.{◌-◌, length}
use Rattle.search.specs.Boards.{state, SameMemory}
use Rattle.search.specs.Questions.{HeldIn}
use Rattle.search.specs.Trails.{Kept, All, settled}
use Rattle.search.proofs.board.Board.run.Given as goal

abbrev pub invariant-loop-q : goal.invariant-loop-q
invariant-loop-q g l =
    let m = g.W.Measure in
    record {
      memory : SameMemory l.fn.self l.self;
      kept : Kept m.zero m.added m.at_most (g.S.RuleSource.meaning l.source) (HeldIn l.held) l.target l.fn.self.labels.now All (state l.self);
    }

abbrev pub decreases-loop-q : goal.decreases-loop-q
decreases-loop-q g l = length l.self.marks.now - settled l.self.marks.now
