use Rattle.std.proofs.Common.{◌≡◌, ◌+◌, ◌≤◌, length}
use Rattle.text.specs.Cuts.{lines}
use Rattle.text.specs.Parts.{lines_left}
use Rattle.reading.specs.Reads.{read_from}
use Rattle.reading.proofs.table.read_lines.Given as goal

abbrev pub invariant-loop-n : goal.invariant-loop-n
invariant-loop-n g l =
    (read_from (g.T.Table.step l.beside) l.n-iterator.a.start (g.T.Table.seen l.table) (lines_left l.n-iterator.b) ≡ read_from (g.T.Table.step l.beside) 1 (g.T.Table.seen l.initial.table) (lines l.text))
    × (l.n-iterator.a.start + length (lines_left l.n-iterator.b) ≤ 8193)
