use Rattle.std.proofs.Common.{◌≡◌, Some, arith, rules}
use Rattle.std.proofs.lemmas.List.{get_or_default}
use Rattle.search.proofs.Turning.{relaxed-next}
use Rattle.search.proofs.board.Board.relax.Goals as goal

pub improve-requires : goal.improve-requires
improve-requires g c =
    let R = g.S.RuleSource.meaning c.args.source.now in
    let lawful = g.S.RuleSource.lawful c.args.source.now in
    let slot : R.slot c.args.q c.loop-k.k ≡ Some (c.in-Some.p, c.in-Some.rule) = cc in
    omega (arith, lawful.live_below_count c.in-Some.p (lawful.slot_leads_to_live _ _ _ _ slot))

pub loop-k-preserved : goal.loop-k-preserved
loop-k-preserved g c =
    let m = g.W.Measure in
    relaxed-next m.zero m.added m.at_most (g.S.RuleSource.meaning c.args.source.now) c.args.q _ c.loop-k.k c.in-Some.p c.in-Some.rule c.args.self.now c.loop-k.self c.improve.new.self _
    (cc) (search (rules, get_or_default)) c.loop-k.invariant c.improve.ensures
