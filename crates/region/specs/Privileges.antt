-- Privileges by number. Assumes nothing.
use Rattle.std.specs.Prelude.{ℕ, ◌+◌, ◌-◌, ◌*◌, ◌/◌, ◌%◌, ◌<◌, cond, Some, None, Option, nat_lt}
use Rattle.region.specs.declared.privilege.Privilege.{Privilege}
use Rattle.region.specs.declared.privilege.Right.{Right}
use Rattle.region.specs.declared.privilege.Right.TheVariants.{AnyUser, Name, Number, Group, Write, Replace}

-- a host's privileges, from its first number on: any user, 16 names, 16 numbers, 16 groups, 64 rows to write, 64 rows to replace
abbrev pub right_at : ℕ → Right
right_at o = cond (nat_lt o 1) AnyUser (cond (nat_lt o 17) (Name (o - 1)) (cond (nat_lt o 33) (Number (o - 17)) (cond (nat_lt o 49) (Group (o - 33)) (cond (nat_lt o 113) (Write (o - 49)) (Replace (o - 113))))))

abbrev pub offset : Right → ℕ
offset AnyUser = 0
offset (Name i) = 1 + i
offset (Number i) = 17 + i
offset (Group j) = 33 + j
offset (Write r) = 49 + r
offset (Replace r) = 113 + r

-- the privilege of a number below 1,416, which is root at any host
abbrev pub decoded : ℕ → Option Privilege
decoded p = cond (nat_lt p 1416) (Some (record { host = p / 177; right = right_at (p % 177) })) None

abbrev pub encoded : Privilege → ℕ
encoded x = x.host * 177 + offset x.right

-- a place in a table that a host can have
abbrev pub Fitting : Right → Type 0
Fitting AnyUser = Unit {0}
Fitting (Name i) = i < 16
Fitting (Number i) = i < 16
Fitting (Group j) = j < 16
Fitting (Write r) = r < 64
Fitting (Replace r) = r < 64

pub record Valid (x : Privilege) : Type 0 where
  pub host_there : x.host < 8
  pub fitting : Fitting x.right
