use Rattle.std.proofs.Common.{length, None, refl}
use Rattle.std.specs.Option.{option_to_list}
use Rattle.tables.specs.HostsText.{hosts_of}
use Rattle.tables.proofs.Counts.{kept, counted_entries}
use Rattle.trust.specs.DomainText.{domain_step}
use Rattle.trust.proofs.DomainLaws.{domain_formed, domain_grows}
use Rattle.trust.proofs.domain.read_domain.Goals as goal

pub returns-clause-formed : goal.returns-clause-formed
returns-clause-formed c = let hosts = hosts_of c.args.hosts.now in kept (domain_step hosts) None _ c.args.text.now c.read_text-read.ensures.held _ tt (domain_formed hosts)

pub returns-clause-counted : goal.returns-clause-counted
returns-clause-counted c =
    let hosts = hosts_of c.args.hosts.now in
    λ ok. counted_entries (domain_step hosts) None _ c.args.text.now c.read_text-read.ensures.held _ _ c.read_text-read.ensures.told ok (λ d. length (option_to_list d)) refl (domain_grows hosts)
