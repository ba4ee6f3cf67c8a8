-- When a site may be closed. Assumes nothing.
use Rattle.std.specs.Prelude.{ℕ, ◌+◌, List, [], ◌∷◌, Some, None, Ok, Err, Option, Result}
use Rattle.reading.specs.declared.fault.Kind.{Kind}
use Rattle.reading.specs.declared.fault.Kind.TheVariants.{Hosts}
use Rattle.reading.specs.declared.fault.SiteFault.{SiteFault}
use Rattle.reading.specs.declared.fault.Refusal.TheVariants.{Unread}
use Rattle.reading.specs.Faults.{fault, in_text, at_host}
use Rattle.region.specs.Tables.{HostTables}
use Rattle.host.specs.Wanted.{first_unread}

-- a text of host h is missing
abbrev pub missing : ℕ → Kind → SiteFault
missing h k = at_host h (in_text k (fault Unread 0))

abbrev pub unread_or : ℕ → Option Kind → Result (Unit {0}) SiteFault → Result (Unit {0}) SiteFault
unread_or h None rest = rest
unread_or h (Some k) rest = Err (missing h k)

-- the first text that is missing, from host h on
abbrev pub checked_from : ℕ → List HostTables → Result (Unit {0}) SiteFault
checked_from h [] = Ok tt
checked_from h (t ∷ ts) = unread_or h (first_unread t) (checked_from (h + 1) ts)

-- a site may be closed if there is a host and no text is missing
abbrev pub checked : List HostTables → Result (Unit {0}) SiteFault
checked [] = Err (missing 0 Hosts)
checked (t ∷ ts) = checked_from 0 (t ∷ ts)
