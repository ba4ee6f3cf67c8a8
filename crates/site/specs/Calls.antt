-- What a call does to a host. Assumes nothing.
use Rattle.std.specs.Prelude.{◌≡◌, Result}
use Rattle.std.specs.Borrow.{Bor, MutBor}
use Rattle.std.specs.Fn.{Once}
use Rattle.reading.specs.declared.fault.TextFault.{TextFault}
use Rattle.region.specs.Tables.{HostTables}
use Rattle.tables.specs.declared.hosts.HostNames.{HostNames}
use Rattle.host.specs.declared.host.Host.{Host}
use Rattle.host.specs.Tables.{host_tables}

module _ {F : Type 0} (g : Once F (MutBor Host × (Bor HostNames × Unit {0})) (Result (Unit {0}) TextFault × (MutBor Host × Unit {0}))) (act : F) (names : HostNames) where
  -- act, which sees the names of the hosts, may answer r at the host x and leave y there
  pub record Acts (x : Host) (r : Result (Unit {0}) TextFault) (y : Host) : Type 0 where
    pub host : MutBor Host
    pub is : host.now ≡ x
    pub seen : Bor HostNames
    pub are : seen.now ≡ names
    pub left : MutBor Host
    pub met : g.post act (host, (seen, tt)) (r, (left, tt))
    pub leaves : left.now ≡ y

  -- it answers what the host's tables say
  abbrev pub AnswersBy : (HostTables → Result (Unit {0}) TextFault) → Type 0
  AnswersBy answer = (x : Host) (r : Result (Unit {0}) TextFault) (y : Host) → Acts x r y → r ≡ answer (host_tables x)

  -- it leaves what they say
  abbrev pub LeavesBy : (HostTables → HostTables) → Type 0
  LeavesBy after = (x : Host) (r : Result (Unit {0}) TextFault) (y : Host) → Acts x r y → host_tables y ≡ after (host_tables x)

  -- it does not rename the host
  abbrev pub KeepsName : Type 0
  KeepsName = (x : Host) (r : Result (Unit {0}) TextFault) (y : Host) → Acts x r y → (host_tables y).name ≡ (host_tables x).name
