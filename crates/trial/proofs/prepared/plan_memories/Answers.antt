use Rattle.std.proofs.Common.{◌≡◌, vec_items, rules}
use Rattle.std.proofs.lemmas.List.Elements.{All-same}
use Rattle.trial.specs.Preparing.{Wide}
use Rattle.trial.proofs.Made.{all_made}
use Rattle.trial.proofs.prepared.plan_memories.Goals as goal

pub returns : goal.returns
returns c =
    let ys = c.in_ok-try_resize_with.ensures.items.0 in
    let are : vec_items c.try_resize_with.new.self ≡ ys = search rules in
    (All-same (Wide c.args.n) _ ys are (all_made (Wide c.args.n) _ _ _ ys (λ x f s. search rules) c.in_ok-try_resize_with.ensures.items.3), search rules)
