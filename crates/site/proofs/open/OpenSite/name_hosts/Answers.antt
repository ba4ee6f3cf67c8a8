use Rattle.site.proofs.Begun.{named-begun}
use Rattle.site.proofs.open.OpenSite.name_hosts.Goals as goal

pub invariant_of-self-2 : goal.invariant_of-self-2
invariant_of-self-2 c = record { named = named-begun _ _ _ c.as_slice.ensures c.begin_hosts.ensures }
