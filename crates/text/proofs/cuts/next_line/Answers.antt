use Rattle.std.proofs.Common.{rules}
use Rattle.text.proofs.Joins.{lines-joined}
use Rattle.text.proofs.Parted.{lines_told}
use Rattle.text.proofs.cuts.next_line.Goals as goal

pub returns : goal.returns
returns c = record { next = search (rules, lines_told); joined = lines-joined _ }
