use Rattle.text.proofs.Few.{few_words}
use Rattle.text.proofs.Joins.{words_apart}
use Rattle.text.proofs.parts.words.Goals as goal

pub returns-clause-apart : goal.returns-clause-apart
returns-clause-apart c = words_apart _

pub returns-clause-few : goal.returns-clause-few
returns-clause-few c = few_words _
