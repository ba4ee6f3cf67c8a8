use Rattle.std.proofs.Common.{◌-◌, arith}
use Rattle.std.proofs.lemmas.Result.{err_from_is_err_and}
use Rattle.search.specs.Questions.{HeldIn}
use Rattle.search.proofs.Replying.{fitting, asked-refused, asked-planned}
use Rattle.search.proofs.question.ask.Goals as goal

pub returns-in_err-from : goal.returns-in_err-from
returns-in_err-from g c =
    let m = g.W.Measure in
    let p = err_from_is_err_and c.from_residual.result c.from_residual.ensures.1 in
    rw (p.1, p.2) (asked-refused m.zero m.added m.at_most (g.S.RuleSource.meaning c.args.source.now) c.args.held.now c.args.target c.args.marks.now c.args.labels.now c.args.plan.now c.args.rules.now
    (record { held = omega arith; marks = omega arith; labels = omega arith; plan = omega arith; rules = omega arith })
    c.chain_start.new.labels (c.count-n.result - 0) (omega (arith, c.count-n.ensures)) c.chain_start.new.marks c.chain_start.ensures.marks (omega arith) c.chain_start.ensures.past _ c.in_err-from.ensures.cases)

pub write_plan-requires : goal.write_plan-requires
write_plan-requires g c =
    let a = c.in_ok-from.ensures.cases.1 in
    fitting g.met.W.Measure.measures _ (g.S.RuleSource.lawful c.args.source.now) (HeldIn _) _ (a.0, c.chain_start.new.labels) _ a.1 (omega arith) c.args.plan.now c.args.rules.now (omega arith) (omega arith)

pub returns : goal.returns
returns g c =
    let m = g.W.Measure in
    asked-planned m.zero m.added m.at_most (g.S.RuleSource.meaning c.args.source.now) c.args.held.now c.args.target c.args.marks.now c.args.labels.now c.args.plan.now c.args.rules.now
    (record { held = omega arith; marks = omega arith; labels = omega arith; plan = omega arith; rules = omega arith })
    c.chain_start.new.labels (c.count-n.result - 0) (omega (arith, c.count-n.ensures)) c.chain_start.new.marks c.chain_start.ensures.marks (omega arith) c.chain_start.ensures.past
    g.met.W.Measure.measures (g.S.RuleSource.lawful c.args.source.now) _ c.in_ok-from.ensures.cases _ _ _ c.write_plan.ensures
