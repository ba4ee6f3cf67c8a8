-- What is printed of a refusal. Assumes nothing.
use Rattle.std.specs.Prelude.{ℕ}
use Rattle.reading.specs.declared.fault.SiteFault.{SiteFault}
use Rattle.reading.specs.Faults.{refusal_number, kind_number}
use Rattle.print.specs.declared.refused.Refused.{Refused}

-- a text of a region was refused: the refusal's number, the line, the kind of text and the host
abbrev pub of_region : SiteFault → Refused
of_region f = record { number = refusal_number f.fault.fault.refusal; line = f.fault.fault.line; text = kind_number f.fault.kind; host = f.host }

-- a question or a call of a trial was refused: 7 stands for the text
abbrev pub of_question : ℕ → Refused
of_question n = record { number = n; line = 0; text = 7; host = 0 }
