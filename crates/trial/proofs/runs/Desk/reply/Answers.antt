use Rattle.trial.proofs.runs.Desk.reply.Goals as goal

pub returns-in-Ask-clause-replied : goal.returns-in-Ask-clause-replied
returns-in-Ask-clause-replied g c l st = rw c.in-Ask.is (c.question.ensures.says l st, rw c.question.ensures.same st)
