use Rattle.std.proofs.Common.{refl}
use Rattle.hub.proofs.Facts.{held_target, nothing_held, at_the_edge}
use Rattle.hub.proofs.stands.hub_stands.Goals as goal

pub returns : goal.returns
returns c = record {
  hosts_are_read = refl;
  accounts_are_read = refl;
  groups_are_read = refl;
  files_are_read = refl;
  trust_is_read = refl;
  domain_is_read = refl;
  slots = record { tom_number = refl; staff_group = refl; write_cshrc = refl; replace_cshrc = refl; larry_number = refl; write_passwd = refl; directory_above_cshrc = refl; staff_writes_cshrc = refl; not_anyone_writes_cshrc = refl; cshrc_makes_larry = refl; no_rhosts_of_larry = refl };
  number_too_large = refl;
  crossing_at_the_edge = at_the_edge;
  held_target_gives_0_steps = held_target;
  nothing_held_gives_13 = nothing_held;
}
