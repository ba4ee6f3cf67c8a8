use Rattle.reading.specs.declared.fault.Kind.TheVariants.{Mtree}
use Rattle.listing.specs.Files.{files_of}
use Rattle.listing.proofs.Sounds.{files_sound, dirs_above}
use Rattle.listing.proofs.Counts.{counted}
use Rattle.listing.proofs.files.table.read_files.Goals as goal

pub returns-clause-sound : goal.returns-clause-sound
returns-clause-sound c = files_sound c.read_text.new.table

pub returns-clause-under : goal.returns-clause-under
returns-clause-under c = dirs_above c.read_text.new.table

pub returns-clause-counted : goal.returns-clause-counted
returns-clause-counted c = counted Mtree c.args.text.now c.read_text.result (files_of c.read_text.new.table) c.read_text.ensures.told c.read_text.ensures.held
