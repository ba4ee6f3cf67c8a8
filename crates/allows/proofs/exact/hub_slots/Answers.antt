use Rattle.std.proofs.Common.{refl}
use Rattle.allows.proofs.exact.hub_slots.Goals as goal

pub returns : goal.returns
returns c = record { tom_number = refl; staff_group = refl; write_cshrc = refl; replace_cshrc = refl; larry_number = refl; write_passwd = refl; directory_above_cshrc = refl; staff_writes_cshrc = refl; not_anyone_writes_cshrc = refl; cshrc_makes_larry = refl; no_rhosts_of_larry = refl }
