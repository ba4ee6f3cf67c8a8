use Rattle.std.proofs.Common.{◌≡◌, length, vec_items, refl, ap, ◌∙◌, ⊎_elim, arith, rules}
use Rattle.std.proofs.lemmas.List.{nil_from_length}
use Rattle.std.proofs.lemmas.List.Elements.{All-rest}
use Rattle.trial.specs.Trials.{source_of}
use Rattle.trial.specs.Preparing.{Wide}
use Rattle.trial.proofs.Running.{run_none, run_more, run-all}
use Rattle.trial.proofs.prepared.Prepared.run.Goals as goal

pub loop-call-init : goal.loop-call-init
loop-call-init g c =
    let calls : c.into_iter-call-iterator.result.a.rest.now ≡ c.args.calls.now = search rules in
    let plans : c.into_iter-call-iterator.result.b.rest.items ≡ vec_items c.args.self.plans = search rules in
    record {
      same = refl;
      wide = rw plans c.args.self.wide;
      enough = omega (arith, ap length calls, ap length plans);
      room = omega (arith, ap length calls);
      onward = run_none _ _ _ _ _ _ _ _ _ calls (nil_from_length _ (omega arith)) c.args.self.bare;
    }

pub loop-call-preserved : goal.loop-call-preserved
loop-call-preserved g c =
    let inv = c.loop-call.invariant in
    let steps = c.in-Some.ensures.steps in
    record {
      same = c.reply.ensures.same ∙ inv.same;
      wide = All-rest (Wide (g.S.RuleSource.meaning (source_of c.args.self.desk.trial)).count) c.in-Some.memory _ _ steps.1.0 inv.wide;
      enough = omega (arith, ap length steps.0, ap length steps.1.0);
      room = omega (arith, ap length steps.0);
      onward = run_more _ _ _ _ _ _ _ _ _ _ _ _ _ _ steps.0 c.push_reserved.ensures.items (rw inv.same at c.reply.ensures.replied) inv.onward;
    }

pub returns-clause-ran : goal.returns-clause-ran
returns-clause-ran g c =
    let inv = c.loop-call.invariant in
    let over : length c.loop-call.call-iterator.a.rest.now ≡ 0 = ⊎_elim (λ a. a.1.0) (λ b. omega (arith, b.1.0)) c.in-None.ensures.steps in
    run-all _ _ _ _ _ _ _ _ _ (nil_from_length _ over) inv.onward
