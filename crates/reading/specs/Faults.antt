-- Refusals by number, and faults by place. Assumes nothing.
use Rattle.std.specs.Prelude.{ℕ, Ok, Err, Result}
use Rattle.reading.specs.declared.fault.Kind.{Kind}
use Rattle.reading.specs.declared.fault.Kind.TheVariants.{Hosts, Passwd, Group, Mtree, Equiv, Ypconf, Rhosts}
use Rattle.reading.specs.declared.fault.LineFault.{LineFault}
use Rattle.reading.specs.declared.fault.TextFault.{TextFault}
use Rattle.reading.specs.declared.fault.SiteFault.{SiteFault}
use Rattle.reading.specs.declared.fault.Refusal.{Refusal}
use Rattle.reading.specs.declared.fault.Refusal.TheVariants.{TooLong, Fields, BadNumber, BadName, Given, Unknown, Full, OutOfTurn, NotCovered, Unread}

-- the number of each refusal
abbrev pub refusal_number : Refusal → ℕ
refusal_number TooLong = 2
refusal_number Fields = 3
refusal_number BadNumber = 4
refusal_number BadName = 5
refusal_number Given = 6
refusal_number Unknown = 7
refusal_number Full = 8
refusal_number OutOfTurn = 9
refusal_number NotCovered = 10
refusal_number Unread = 11

-- the number of each kind of text
abbrev pub kind_number : Kind → ℕ
kind_number Hosts = 0
kind_number Passwd = 1
kind_number Group = 2
kind_number Mtree = 3
kind_number Equiv = 4
kind_number Ypconf = 5
kind_number Rhosts = 6

abbrev pub fault : Refusal → ℕ → LineFault
fault w n = record { refusal = w; line = n }

abbrev pub in_text : Kind → LineFault → TextFault
in_text k f = record { kind = k; fault = f }

abbrev pub at_host : ℕ → TextFault → SiteFault
at_host h f = record { host = h; fault = f }

-- what failed, with its place
abbrev pub tagged : {P T E : Type 0} → P → Result T E → Result T (P × E)
tagged p (Ok v) = Ok v
tagged p (Err e) = Err (p, e)
