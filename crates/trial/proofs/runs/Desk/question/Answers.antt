use Rattle.std.proofs.Common.{◌≡◌, ◌+◌, take, Err, vec_items, ap, ◌∙◌, arith, rules}
use Rattle.std.proofs.lemmas.List.{with_items_is}
use Rattle.trial.proofs.Asking.{says-plan, says-refused}
use Rattle.trial.proofs.runs.Desk.question.Goals as goal

pub returns-in_err-found-clause-says : goal.returns-in_err-found-clause-says
returns-in_err-found-clause-says g c l st =
    let r : c.from_residual.result ≡ Err c.in_err-found.field-0.0 = search rules in
    rw r (says-refused l (c.in_err-found.ensures l st) (omega arith) (omega arith) (omega arith) (omega arith))

pub returns-clause-says : goal.returns-clause-says
returns-clause-says g c l st =
    let steps = c.in_ok-found.found.steps in
    let privileges : vec_items c.truncate.new.self ≡ take (steps + 1) c.ask.new.plan = c.truncate.ensures.items ∙ ap (take (steps + 1)) (with_items_is c.args.memory.plan c.ask.new.plan (omega arith)) in
    let beside : vec_items c.truncate-2.new.self ≡ take (steps + 1) c.ask.new.rules = c.truncate-2.ensures.items ∙ ap (take (steps + 1)) (with_items_is c.args.memory.rules c.ask.new.rules (omega arith)) in
    says-plan l (record { found = c.in_ok-found.found; privileges = c.truncate.new.self; rules = c.truncate-2.new.self }) (c.in_ok-found.ensures l st) (omega arith) (omega arith) (omega arith) (omega arith) privileges beside
