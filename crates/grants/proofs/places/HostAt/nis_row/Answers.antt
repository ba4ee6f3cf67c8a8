use Rattle.grants.proofs.places.HostAt.nis_row.Goals as goal

pub returns-clause-place : goal.returns-clause-place
returns-clause-place c = cc
