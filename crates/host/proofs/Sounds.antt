-- What a host holds is sound. Assumes nothing.
use Rattle.region.specs.Sound.{OwnName, HostSound}
use Rattle.tables.proofs.AccountLaws.{accounts_sound}
use Rattle.tables.proofs.GroupLaws.{groups_sound}
use Rattle.listing.proofs.Sounds.{files_sound}
use Rattle.host.specs.declared.host.Host.{Host}
use Rattle.host.specs.Tables.{host_tables}

pub host_sound : (h : Host) → OwnName (host_tables h).name → HostSound (host_tables h)
host_sound h own = record { named = own; accounts = accounts_sound h.accounts.table; groups = groups_sound h.groups.table; files = files_sound h.files.table }
