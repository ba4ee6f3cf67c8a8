-- What a trial holds.
use Rattle.trial.specs.Tables.{Tables}
use Rattle.trial.specs.declared.trials.Trial.{Trial}

-- its two lists
abbrev pub lists_of : {S : Type 0} → Trial S → Tables
lists_of t = record { assumed = t.tables.source.pairs; barred = t.tables.barred }

-- the source that it is over
abbrev pub source_of : {S : Type 0} → Trial S → S
source_of t = t.tables.source.source
