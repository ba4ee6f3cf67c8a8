-- The rows that tables hold, as entries of a region's tables. Assumes nothing.
use Rattle.std.specs.Prelude.{ℕ, ◌≤◌, List, length}
use Rattle.text.specs.Kept.{name_bytes, path_bytes}
use Rattle.region.specs.Tables.{AccountEntry, GroupEntry}
use Rattle.region.specs.Sound.{Each, Distinct, OwnName}
use Rattle.tables.specs.declared.accounts.Account.{Account}
use Rattle.tables.specs.declared.groups.Group.{Group}

-- what a row says of an account
abbrev pub account_entry : Account → AccountEntry
account_entry a = record { name = name_bytes a.name; number = a.number; group = a.group; home = path_bytes a.home }

-- what a row says of a group
abbrev pub group_entry : Group → GroupEntry
group_entry g = record { name = name_bytes g.name; number = g.number; listed = g.listed }

-- the names of a region's hosts
pub record HostNamesSound (xs : List (List ℕ)) : Type 0 where
  pub few : length xs ≤ 8
  pub formed : Each OwnName xs
  pub names : Distinct (λ n. n) xs
