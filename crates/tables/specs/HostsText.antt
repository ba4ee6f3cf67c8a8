-- What a hosts text says. Assumes nothing.
use Rattle.std.specs.Prelude.{ℕ, Bool, cond, not, List, [], map, is_some, Ok, Option, Result, position, slice_get}
use Rattle.std.specs.Str.{bytes_eq}
use Rattle.text.specs.declared.cuts.Mark.TheVariants.{Hash}
use Rattle.text.specs.Cuts.{marks, until, words}
use Rattle.text.specs.Kept.{name_bytes, name_in}
use Rattle.region.specs.Sound.{reserved}
use Rattle.reading.specs.declared.fault.LineFault.{LineFault}
use Rattle.reading.specs.declared.fault.Refusal.{Refusal}
use Rattle.reading.specs.declared.fault.Refusal.TheVariants.{Fields, BadName, Given, NotCovered}
use Rattle.reading.specs.Reads.{wants, needs, and_then, passed_over, read_text}
use Rattle.tables.specs.declared.hosts.HostNames.{HostNames}
use Rattle.tables.specs.Steps.{with_row}

-- the names that a table holds
abbrev pub hosts_of : HostNames → List (List ℕ)
hosts_of t = map name_bytes t.rows

-- the word past the address, before the comment
abbrev pub host_word : List ℕ → Option (List ℕ)
host_word l = slice_get (words (until (marks Hash) l)) 1

-- the name that a line gives
abbrev pub host_in : List ℕ → Result (List ℕ) Refusal
host_in l =
    wants Fields (host_word l) (λ w.
    needs NotCovered (not (reserved w))
    (wants BadName (name_in w) (λ h. Ok h)))

-- whether a host has the name
abbrev pub host_named : List ℕ → List ℕ → Bool
host_named bs h = bytes_eq h bs

-- the place of the host of a name
abbrev pub host_place : List ℕ → List (List ℕ) → Option ℕ
host_place bs rows = position (host_named bs) rows

-- the names with the one that a line gives
abbrev pub with_host : List (List ℕ) → List ℕ → Result (List (List ℕ)) Refusal
with_host rows h = needs Given (not (is_some (host_place h rows))) (with_row 8 rows h)

-- the names after a line
abbrev pub host_step : List (List ℕ) → List ℕ → Result (List (List ℕ)) Refusal
host_step rows l = cond (passed_over l) (Ok rows) (and_then (host_in l) (λ h. with_host rows h))

-- the names that a text gives, or its first bad line
abbrev pub hosts_in : List ℕ → Result (List (List ℕ)) LineFault
hosts_in bs = read_text host_step [] bs
