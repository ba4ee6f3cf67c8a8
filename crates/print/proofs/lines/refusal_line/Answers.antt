use Rattle.std.proofs.Common.{rules}
use Rattle.bounded.proofs.Clips.{clip}
use Rattle.print.proofs.Short.{fresh, refusal_line-short}
use Rattle.print.proofs.lines.refusal_line.Goals as goal

pub returns : goal.returns
returns c =
    fresh
    (clip c.add.ensures (clip c.put_number.ensures (clip c.add-2.ensures (clip c.put_number-2.ensures (clip c.add-3.ensures (clip c.put_number-3.ensures (clip c.add-4.ensures (clip c.put_number-4.ensures c.add-5.ensures))))))))
    c.new-out.ensures
    (refusal_line-short c.args.refused.number c.args.refused.line c.args.refused.text c.args.refused.host (search rules) (search rules) (search rules) (search rules))
