use Rattle.trial.specs.Trials.{lists_of}
use Rattle.trial.proofs.Transport.{asked-to}
use Rattle.trial.proofs.trials.Trial.ask.Goals as goal

pub returns : goal.returns
returns g c l st =
    let m = g.W.Measure in
    let s = c.args.self.now.tables.source.source in
    asked-to (g.S.RuleSource.meaning s) (g.S.RuleSource.lawful s) (lists_of c.args.self.now) l st m.zero m.added m.at_most c.args.target c.args.plan.now c.ask.new.plan c.args.rules.now c.ask.new.rules
    c.args.held.now c.args.marks.now c.ask.new.marks c.args.labels.now c.ask.new.labels c.ask.result c.ask.ensures
