use Rattle.std.proofs.Common.{rules}
use Rattle.std.proofs.lemmas.List.{map-set}
use Rattle.host.proofs.host.Host.read_rhosts.Goals as goal

pub returns-clause-held : goal.returns-clause-held
returns-clause-held c = simp map-set (search rules)
