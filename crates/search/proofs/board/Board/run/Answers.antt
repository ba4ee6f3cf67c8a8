use Rattle.std.proofs.Common.{arith, rules}
use Rattle.search.specs.Boards.{state}
use Rattle.search.specs.Questions.{HeldIn}
use Rattle.search.proofs.Keeping.{start-keeps}
use Rattle.search.proofs.Running.{run-on, run-found, run-none}
use Rattle.search.proofs.board.Board.run.Goals as goal

pub loop-q-init : goal.loop-q-init
loop-q-init g c =
    let lawful = g.S.RuleSource.lawful c.args.source.now in
    record {
      memory = search rules;
      kept = rw c.begin.ensures.holds (start-keeps g.met.W.Measure.measures _ lawful c.args.target (HeldIn c.args.held.now) c.args.self.now.labels.now c.args.self.now.marks.now (omega arith) (omega arith) (lawful.live_below_count _ c.requires.live));
    }

pub returns-then-is_held-clause-cases : goal.returns-then-is_held-clause-cases
returns-then-is_held-clause-cases g c =
    run-found g.met.W.Measure.measures _ (g.S.RuleSource.lawful c.args.source.now) (HeldIn c.args.held.now) c.args.target c.args.self.now.labels.now (state c.loop-q.self) c.loop-q.invariant.kept
    c.in-Some.q c.in-Some.ensures c.if-is_held.true

pub loop-q-smaller : goal.loop-q-smaller
loop-q-smaller g c =
    (run-on g.met.W.Measure.measures _ (g.S.RuleSource.lawful c.args.source.now) (HeldIn c.args.held.now) c.args.target c.args.self.now.labels.now (state c.loop-q.self) c.loop-q.invariant.kept
    c.in-Some.q c.in-Some.ensures c.if-is_held.false (state c.relax.new.self) c.relax.ensures.holds).1

pub loop-q-preserved : goal.loop-q-preserved
loop-q-preserved g c = record {
  memory = search rules;
  kept = (run-on g.met.W.Measure.measures _ (g.S.RuleSource.lawful c.args.source.now) (HeldIn c.args.held.now) c.args.target c.args.self.now.labels.now (state c.loop-q.self) c.loop-q.invariant.kept
      c.in-Some.q c.in-Some.ensures c.if-is_held.false (state c.relax.new.self) c.relax.ensures.holds).0;
}

pub returns-clause-cases : goal.returns-clause-cases
returns-clause-cases g c =
    run-none g.met.W.Measure.measures _ (g.S.RuleSource.lawful c.args.source.now) (HeldIn c.args.held.now) c.args.target c.args.self.now.labels.now (state c.loop-q.self) c.loop-q.invariant.kept c.in_default.ensures
