-- What a passwd text says. Assumes nothing.
use Rattle.std.specs.Prelude.{ℕ, Bool, cond, not, List, [], map, length, is_some, Some, None, Ok, Option, Result, ◌==◌, slice_index_or, position}
use Rattle.std.specs.Str.{bytes_eq}
use Rattle.text.specs.declared.cuts.Mark.TheVariants.{Colon}
use Rattle.text.specs.Bytes.{number}
use Rattle.text.specs.Cuts.{fields}
use Rattle.text.specs.Kept.{name_in, path_in}
use Rattle.region.specs.Tables.{AccountEntry}
use Rattle.region.specs.Sound.{reserved}
use Rattle.reading.specs.declared.fault.LineFault.{LineFault}
use Rattle.reading.specs.declared.fault.Refusal.{Refusal}
use Rattle.reading.specs.declared.fault.Refusal.TheVariants.{Fields, BadNumber, BadName, Given, NotCovered}
use Rattle.reading.specs.Reads.{wants, needs, and_then, read_text}
use Rattle.tables.specs.declared.accounts.Accounts.{Accounts}
use Rattle.tables.specs.declared.accounts.read.Entry.{Entry}
use Rattle.tables.specs.Rows.{account_entry}
use Rattle.tables.specs.Steps.{with_row}

-- whether an account has the name
abbrev pub account_named : List ℕ → AccountEntry → Bool
account_named bs a = bytes_eq a.name bs

-- the accounts that a table holds
abbrev pub accounts_of : Accounts → List AccountEntry
accounts_of t = map account_entry t.rows

-- the fields of a line that are kept, as written
pub record AccountLine : Type 0 where
  pub name : List ℕ
  pub number : List ℕ
  pub group : List ℕ
  pub home : List ℕ

abbrev pub account_line : Entry → AccountLine
account_line e = record { name = e.name.now; number = e.number.now; group = e.group.now; home = e.home.now }

-- seven fields: name, password, number, group, comment, home, shell
abbrev pub seven_fields : List (List ℕ) → Option AccountLine
seven_fields fs = cond (length fs == 7) (Some (record { name = slice_index_or fs 0 []; number = slice_index_or fs 2 []; group = slice_index_or fs 3 []; home = slice_index_or fs 5 [] })) None

-- the account that a line gives
abbrev pub account_in : List ℕ → Result AccountEntry Refusal
account_in l =
    wants Fields (seven_fields (fields Colon l)) (λ e.
    needs NotCovered (not (reserved e.name))
    (wants BadName (name_in e.name) (λ name.
    wants BadName (path_in e.home) (λ home.
    wants BadNumber (number e.number) (λ u.
    wants BadNumber (number e.group) (λ g.
    Ok (record { name = name; number = u; group = g; home = home })))))))

-- the place of the account of a name
abbrev pub account_place : List ℕ → List AccountEntry → Option ℕ
account_place bs rows = position (account_named bs) rows

-- the accounts with the one that a line gives
abbrev pub with_account : List AccountEntry → AccountEntry → Result (List AccountEntry) Refusal
with_account rows a = needs Given (not (is_some (account_place a.name rows))) (with_row 16 rows a)

-- the accounts after a line
abbrev pub account_step : List AccountEntry → List ℕ → Result (List AccountEntry) Refusal
account_step rows l = and_then (account_in l) (λ a. with_account rows a)

-- the accounts that a text gives, or its first bad line
abbrev pub accounts_in : List ℕ → Result (List AccountEntry) LineFault
accounts_in bs = read_text account_step [] bs
