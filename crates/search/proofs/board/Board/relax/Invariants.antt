use Rattle.search.specs.Boards.{state, Becomes}
use Rattle.search.specs.Labels.{label, relaxed}
use Rattle.search.proofs.board.Board.relax.Given as goal

abbrev pub invariant-loop-k : goal.invariant-loop-k
invariant-loop-k g l =
    let m = g.W.Measure in
    Becomes l.initial.self l.self (relaxed m.zero m.added m.at_most (g.S.RuleSource.meaning l.source) l.q (label m.zero l.initial.self.labels.now l.q).weight l.k (state l.initial.self))
