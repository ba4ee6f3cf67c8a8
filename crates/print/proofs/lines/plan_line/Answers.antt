use Rattle.std.proofs.Common.{rules}
use Rattle.bounded.proofs.Clips.{clip, told}
use Rattle.print.proofs.Short.{fresh, plan_line-short}
use Rattle.print.proofs.lines.plan_line.Goals as goal

pub returns : goal.returns
returns g c =
    fresh
    (clip c.put_number.ensures (clip c.add.ensures (clip (told c.add-2.ensures (search rules)) c.add-3.ensures)))
    c.new-out.ensures
    (plan_line-short c.args.k _ (search rules) ((g.met.S.Named.named c.args.source.now).at_most_128_bytes c.args.p))
