use Rattle.text.proofs.Few.{few_fields}
use Rattle.text.proofs.Joins.{fields-joined}
use Rattle.text.proofs.parts.fields.Goals as goal

pub returns-clause-joined : goal.returns-clause-joined
returns-clause-joined c = fields-joined _ _

pub returns-clause-few : goal.returns-clause-few
returns-clause-few c = few_fields _ _
