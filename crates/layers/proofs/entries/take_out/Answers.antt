use Rattle.std.proofs.Common.{◌≡◌, false, is_some, arith, rules}
use Rattle.std.proofs.lemmas.Grind.{common_steps}
use Rattle.std.specs.List.{list_any}
use Rattle.layers.proofs.Places.{any-position, remove-position}
use Rattle.layers.proofs.entries.take_out.Goals as goal

pub returns-in_err-place-clause-answer : goal.returns-in_err-place-clause-answer
returns-in_err-place-clause-answer g c =
    let none : is_some c.place_of.result ≡ false = search rules in
    let absent : list_any (λ y. g.T.PartialEq.eq y c.args.x) c.args.list.now ≡ false = cc (any-position (λ (y : g.row.T.Denot). g.T.PartialEq.eq y c.args.x) c.args.list.now) in
    search rules

pub returns-clause-answer : goal.returns-clause-answer
returns-clause-answer g c = grind (arith, common_steps, any-position)

pub returns-clause-after : goal.returns-clause-after
returns-clause-after g c = grind (arith, common_steps, remove-position)
