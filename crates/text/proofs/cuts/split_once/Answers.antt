use Rattle.std.proofs.Common.{rules}
use Rattle.text.proofs.Joins.{fields-joined}
use Rattle.text.proofs.Parted.{until-whole}
use Rattle.text.proofs.cuts.split_once.Goals as goal

pub returns-in_err-rest : goal.returns-in_err-rest
returns-in_err-rest c = record { split = search (rules, until-whole); joined = fields-joined _ _ }

pub returns-clause-joined : goal.returns-clause-joined
returns-clause-joined c = fields-joined _ _
