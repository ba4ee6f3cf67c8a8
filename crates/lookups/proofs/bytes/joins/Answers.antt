use Rattle.std.proofs.Common.{◌∙◌}
use Rattle.std.proofs.lemmas.Bool.Decides.{Decides-eqb}
use Rattle.std.proofs.lemmas.Slice.Eq.{strip_suffix_is}
use Rattle.lookups.proofs.Parts.{front_is}
use Rattle.lookups.proofs.bytes.joins.Goals as goal

pub returns : goal.returns
returns c = c.eq.ensures ∙ front_is c.args.path.now c.args.back.now c.args.front _ (strip_suffix_is Decides-eqb c.args.path.now c.args.back.now _ c.strip_suffix.ensures.cases)
