use Rattle.std.proofs.Common.{rules}
use Rattle.listing.proofs.Fits.{fits}
use Rattle.listing.proofs.files.Files.list.Goals as goal

pub put-requires : goal.put-requires
put-requires c = fits _ _ (search rules)
