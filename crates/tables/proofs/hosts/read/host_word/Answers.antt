use Rattle.std.proofs.Common.{rules}
use Rattle.std.proofs.lemmas.Iterator.Consumers.{nth_from_yields_List, YieldsList-from_first}
use Rattle.text.specs.Parts.{words_left}
use Rattle.tables.proofs.hosts.read.host_word.Goals as goal

pub returns : goal.returns
returns c = nth_from_yields_List _ c.nth.new.self _ c.nth.ensures.ran (YieldsList-from_first (λ x. x.now) words_left _ (search rules))
