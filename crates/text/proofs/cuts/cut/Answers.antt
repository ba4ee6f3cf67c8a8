use Rattle.std.proofs.Common.{rules}
use Rattle.std.proofs.lemmas.List.{take_rest}
use Rattle.text.proofs.Parted.{until_at, past_at, fields_at, until_none, past_none, fields_none}
use Rattle.text.proofs.cuts.cut.Goals as goal

pub returns-in-Some : goal.returns-in-Some
returns-in-Some c = search (rules, until_at, past_at, fields_at, take_rest)

pub returns-in-None : goal.returns-in-None
returns-in-None c = search (rules, until_none, past_none, fields_none)
