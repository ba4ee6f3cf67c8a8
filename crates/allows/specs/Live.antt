-- Which privileges are live. Assumes nothing.
use Rattle.std.specs.Prelude.{ℕ, Bool, true, false, cond, List, length, Some, None, Option, ◌==◌, nat_eq, nat_lt, position}
use Rattle.std.specs.List.{slice_get}
use Rattle.text.specs.Bytes.{and_then}
use Rattle.region.specs.Privileges.{decoded}
use Rattle.region.specs.Tables.{AccountEntry, HostTables}
use Rattle.region.specs.declared.privilege.Privilege.{Privilege}
use Rattle.region.specs.declared.privilege.Right.{Right}
use Rattle.region.specs.declared.privilege.Right.TheVariants.{AnyUser, Name, Number, Group, Write, Replace}

-- the first account with the number n
abbrev pub numbered : ℕ → List AccountEntry → Option ℕ
numbered n xs = position (λ a. nat_eq a.number n) xs

-- whether a place was found, and is i
abbrev pub is_place : ℕ → Option ℕ → Bool
is_place i None = false
is_place i (Some j) = j == i

-- whether account i is there, and is the first with its number
abbrev pub is_first : List AccountEntry → ℕ → Bool
is_first xs i = is_place i (and_then (slice_get xs i) (λ a. numbered a.number xs))

-- whether a host has what a right speaks of
abbrev pub host_has : HostTables → Right → Bool
host_has t AnyUser = true
host_has t (Name i) = nat_lt i (length t.accounts)
host_has t (Number i) = is_first t.accounts i
host_has t (Group j) = nat_lt j (length t.groups)
host_has t (Write r) = nat_lt r (length t.files)
host_has t (Replace r) = nat_lt r (length t.files)

-- whether a host is there and has it
abbrev pub has_at : Option HostTables → Right → Bool
has_at None w = false
has_at (Some t) w = host_has t w

-- whether there is such a privilege, and the site has it
abbrev pub has : List HostTables → Option Privilege → Bool
has hs None = false
has hs (Some x) = has_at (slice_get hs x.host) x.right

-- root at any host is always live, and any other privilege if its host has it
abbrev pub site_live : List HostTables → ℕ → Bool
site_live hs p = cond (p == 1416) true (has hs (decoded p))
