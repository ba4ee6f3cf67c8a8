use Rattle.text.proofs.Few.{few_lines}
use Rattle.text.proofs.Joins.{lines-joined}
use Rattle.text.proofs.parts.lines.Goals as goal

pub returns-clause-joined : goal.returns-clause-joined
returns-clause-joined c = lines-joined _

pub returns-clause-few : goal.returns-clause-few
returns-clause-few c = few_lines _
