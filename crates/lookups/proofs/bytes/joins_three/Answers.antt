use Rattle.std.proofs.Common.{rules, ◌++◌}
use Rattle.std.proofs.lemmas.Bool.Decides.{Decides-eqb}
use Rattle.std.proofs.lemmas.Slice.Eq.{strip_prefix_is}
use Rattle.lookups.proofs.Parts.{back_is}
use Rattle.lookups.proofs.bytes.joins_three.Goals as goal

pub returns : goal.returns
returns c = back_is c.args.path.now c.args.a.now (c.args.b.now ++ c.args.c.now) c.strip_prefix.result _ (strip_prefix_is Decides-eqb c.args.path.now c.args.a.now _ c.strip_prefix.ensures.cases) (search rules)
