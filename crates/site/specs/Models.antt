-- A site as plain records, and what its calls make of it. Assumes nothing.
use Rattle.std.specs.Prelude.{ℕ, zero, suc, Bool, false, cond, not, List, [], ◌∷◌, map, length, take, is_ok, Some, None, Ok, Err, Option, Result}
use Rattle.std.specs.List.{slice_get}
use Rattle.reading.specs.declared.fault.Kind.{Kind}
use Rattle.reading.specs.declared.fault.Kind.TheVariants.{Hosts}
use Rattle.reading.specs.declared.fault.SiteFault.{SiteFault}
use Rattle.reading.specs.declared.fault.TextFault.{TextFault}
use Rattle.reading.specs.declared.fault.Refusal.TheVariants.{Unknown}
use Rattle.reading.specs.Faults.{fault, in_text, at_host}
use Rattle.reading.specs.Reads.{value_or}
use Rattle.region.specs.Tables.{HostTables}
use Rattle.tables.specs.HostsText.{hosts_of, hosts_in}
use Rattle.host.specs.declared.host.Host.{Host}
use Rattle.host.specs.Tables.{host_tables, unread_tables}
use Rattle.host.specs.Reads.{taken, answered}
use Rattle.site.specs.declared.open.OpenSite.{OpenSite}

-- whether the hosts text has been read, and the hosts that it names
pub record SiteModel : Type 0 where
  pub hosts_read : Bool
  pub hosts : List HostTables

-- the first hosts, as many as there are
abbrev pub first_hosts : ℕ → List Host → List HostTables
first_hosts count hosts = take count (map host_tables hosts)

-- the hosts that have the names that the hosts text gives
abbrev pub open_model : OpenSite → SiteModel
open_model s = record { hosts_read = s.names.read; hosts = first_hosts (length (hosts_of s.names.table)) s.hosts }

-- the names of the hosts
abbrev pub site_names : SiteModel → List (List ℕ)
site_names m = map (λ t. t.name) m.hosts

-- a site none of whose texts has been read
abbrev pub unread_site : SiteModel
unread_site = record { hosts_read = false; hosts = [] }

-- what failed, at a host
abbrev pub placed : ℕ → Result (Unit {0}) TextFault → Result (Unit {0}) SiteFault
placed h (Ok u) = Ok tt
placed h (Err f) = Err (at_host h f)

-- the hosts text is read once
abbrev pub hosts_turn : SiteModel → Bool
hosts_turn m = not m.hosts_read

-- what reading the hosts text answers, and the site after it
abbrev pub hosts_answer : SiteModel → List ℕ → Result (Unit {0}) SiteFault
hosts_answer m bs = placed 0 (answered Hosts bs (hosts_turn m) (hosts_in bs))

abbrev pub hosts_after : SiteModel → List ℕ → SiteModel
hosts_after m bs = cond (taken bs (hosts_turn m)) (record { hosts_read = is_ok (hosts_in bs); hosts = map unread_tables (value_or [] (hosts_in bs)) }) m

-- there is no such host
abbrev pub no_host : Kind → TextFault
no_host k = in_text k (fault Unknown 0)

-- what a call for a text of a kind answers that goes to a host, if there is one
abbrev pub answer_at : Kind → (HostTables → Result (Unit {0}) TextFault) → Option HostTables → Result (Unit {0}) TextFault
answer_at k answer None = Err (no_host k)
answer_at k answer (Some t) = answer t

-- what it answers for host h
abbrev pub host_answer : Kind → ℕ → (HostTables → Result (Unit {0}) TextFault) → SiteModel → Result (Unit {0}) SiteFault
host_answer k h answer m = placed h (answer_at k answer (slice_get m.hosts h))

-- a list whose item at a place is changed, if there is one
abbrev pub edited : {X : Type 0} → (X → X) → List X → ℕ → List X
edited f [] i = []
edited f (x ∷ xs) zero = f x ∷ xs
edited f (x ∷ xs) (suc i) = x ∷ edited f xs i

-- the site after a call about host h, which changes nothing else
abbrev pub host_after : ℕ → (HostTables → HostTables) → SiteModel → SiteModel
host_after h after m = record { hosts_read = m.hosts_read; hosts = edited after m.hosts h }

-- a host whose texts are unread and whose tables are as on the first day
abbrev pub cleared : HostTables → HostTables
cleared t = unread_tables t.name
