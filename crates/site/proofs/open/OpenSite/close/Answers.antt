use Rattle.std.proofs.Common.{refl}
use Rattle.allows.proofs.ExactLaw.{allowed_exactly}
use Rattle.site.specs.Sounds.{site-sound}
use Rattle.site.proofs.Wholes.{nothing_unread, some_host}
use Rattle.site.proofs.open.OpenSite.close.Goals as goal

pub returns : goal.returns
returns c = record { same = refl; some_host = some_host _ c.requires; nothing_unread = nothing_unread _ c.requires; exact = allowed_exactly _ (site-sound c.args.self) }
