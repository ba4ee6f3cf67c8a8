use Rattle.forms.proofs.Named.{site_well_named}
use Rattle.forms.proofs.printed.well_named.Goals as goal

pub returns : goal.returns
returns c = site_well_named
