use Rattle.std.proofs.Common.{◌≡◌, ◌+◌, ◌*◌, true, sym, refl, ◌∙◌, rules}
use Rattle.matrix.specs.Grants.{inside}
use Rattle.matrix.proofs.Cells.{put_reads}
use Rattle.matrix.proofs.table.Matrix.put.Goals as goal

pub returns : goal.returns
returns c =
    let m = c.args.self.now in
    let ok : inside m c.args.p c.args.g ≡ true = search rules in
    let at : c.in_ok-cell.cell ≡ c.args.g * m.count + c.args.p = search rules in
    (ok, refl, put_reads m.count m.cells.items c.args.p c.args.g _ c.args.grants (sym m.cells.ok.0 ∙ m.square) ok at)
