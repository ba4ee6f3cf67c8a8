use Rattle.std.proofs.Common.{vec_items, All, subst, arith}
use Rattle.trial.specs.Preparing.{Wide}
use Rattle.trial.proofs.prepared.Prepared.new.Goals as goal

pub invariant_of-result : goal.invariant_of-result
invariant_of-result g c = record {
  bare = c.in_ok-desk.ensures.1;
  wide = subst (λ n. All (Wide n) (vec_items c.in_ok-plans.plans)) c.count-n.ensures c.in_ok-plans.ensures.0;
  room = omega (arith, c.in_ok-replies.ensures.capacity, c.in_ok-plans.ensures.1);
  none = c.in_ok-replies.ensures.len;
}
