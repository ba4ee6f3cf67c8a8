-- What a group text says. Assumes nothing.
use Rattle.std.specs.Prelude.{ℕ, ◌≤◌, Bool, true, false, cond, not, ◌||◌, List, [], ◌∷◌, map, length, replicate, Some, None, Ok, Option, Result, ◌==◌, slice_index_or, slice_set}
use Rattle.std.specs.List.{list_all, list_any}
use Rattle.std.specs.Str.{bytes_eq}
use Rattle.text.specs.declared.cuts.Mark.TheVariants.{Colon, Comma}
use Rattle.text.specs.Bytes.{name, number}
use Rattle.text.specs.Cuts.{fields, some}
use Rattle.text.specs.Kept.{name_bytes, name_in}
use Rattle.region.specs.Tables.{AccountEntry, GroupEntry}
use Rattle.region.specs.Sound.{OwnName, reserved}
use Rattle.reading.specs.declared.fault.LineFault.{LineFault}
use Rattle.reading.specs.declared.fault.Refusal.{Refusal}
use Rattle.reading.specs.declared.fault.Refusal.TheVariants.{Fields, BadNumber, BadName, Given, Unknown, NotCovered}
use Rattle.reading.specs.Reads.{wants, needs, and_then, read_text}
use Rattle.tables.specs.declared.groups.Groups.{Groups}
use Rattle.tables.specs.declared.groups.read.Entry.{Entry}
use Rattle.tables.specs.declared.groups.read.Head.{Head}
use Rattle.tables.specs.Rows.{group_entry}
use Rattle.tables.specs.Steps.{with_row}
use Rattle.tables.specs.PasswdText.{account_place}

-- the groups that a table holds
abbrev pub groups_of : Groups → List GroupEntry
groups_of t = map group_entry t.rows

-- the fields of a line that are kept, as written
pub record GroupFields : Type 0 where
  pub name : List ℕ
  pub number : List ℕ
  pub members : List ℕ

abbrev pub group_fields : Entry → GroupFields
group_fields e = record { name = e.name.now; number = e.number.now; members = e.members.now }

-- four fields: name, password, number, members
abbrev pub four_fields : List (List ℕ) → Option GroupFields
four_fields fs = cond (length fs == 4) (Some (record { name = slice_index_or fs 0 []; number = slice_index_or fs 2 []; members = slice_index_or fs 3 [] })) None

-- the members between commas; an empty field has none
abbrev pub members : List ℕ → List (List ℕ)
members bs = cond (some bs) (fields Comma bs) []

-- the name and the number that a line gives a group
pub record GroupHead : Type 0 where
  pub name : List ℕ
  pub number : ℕ

abbrev pub group_head : Head → GroupHead
group_head h = record { name = name_bytes h.name; number = h.number }

-- the name and the number that a line gives a group, where its members are names too
abbrev pub group_head_in : GroupFields → Result GroupHead Refusal
group_head_in e =
    needs NotCovered (not (reserved e.name))
    (wants BadName (name_in e.name) (λ own.
    needs BadName (list_all name (members e.members))
    (wants BadNumber (number e.number) (λ u.
    Ok (record { name = own; number = u })))))

pub record GroupHeadFormed (g : GroupHead) : Type 0 where
  pub named : OwnName g.name
  pub numbered : g.number ≤ 4294967294

-- whether a group has the name or the number
abbrev pub group_given : List ℕ → ℕ → GroupEntry → Bool
group_given bs u g = g.number == u || bytes_eq g.name bs

-- which accounts are members, besides those listed before
abbrev pub listed_from : List AccountEntry → List Bool → List (List ℕ) → Result (List Bool) Refusal
listed_from accounts listed [] = Ok listed
listed_from accounts listed (m ∷ ms) = wants Unknown (account_place m accounts) (λ i. listed_from accounts (slice_set listed i true) ms)

-- which accounts are members
abbrev pub listed_in : List AccountEntry → List (List ℕ) → Result (List Bool) Refusal
listed_in accounts ms = listed_from accounts (replicate 16 false) ms

-- the groups with the one that a line gives
abbrev pub with_group : List AccountEntry → List GroupEntry → GroupHead → List (List ℕ) → Result (List GroupEntry) Refusal
with_group accounts rows g ms =
    needs Given (not (list_any (group_given g.name g.number) rows))
    (and_then (listed_in accounts ms) (λ listed.
    with_row 16 rows (record { name = g.name; number = g.number; listed = listed })))

-- the groups after a line
abbrev pub group_step : List AccountEntry → List GroupEntry → List ℕ → Result (List GroupEntry) Refusal
group_step accounts rows l =
    wants Fields (four_fields (fields Colon l)) (λ e.
    and_then (group_head_in e) (λ g.
    with_group accounts rows g (members e.members)))

-- the groups that a text gives beside those accounts, or its first bad line
abbrev pub groups_in : List AccountEntry → List ℕ → Result (List GroupEntry) LineFault
groups_in accounts bs = read_text (group_step accounts) [] bs
