use Rattle.std.proofs.Common.{rules}
use Rattle.bounded.proofs.Clips.{clip, told}
use Rattle.print.proofs.Short.{fresh}
use Rattle.matrix.specs.Printing.{operations_named}
use Rattle.matrix.proofs.forms.MatrixNamed.print.Goals as goal

pub returns : goal.returns
returns c = fresh (told (clip c.add.ensures c.put_number.ensures) (search rules)) c.new-form.ensures ((operations_named c.args.self.now).at_most_128_bytes c.args.p)
