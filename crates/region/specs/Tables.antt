-- What the texts of a region say, as plain records: the tables of each host. Assumes nothing.
use Rattle.std.specs.Prelude.{ℕ, Bool, List, Option}

-- an account: its name, its number, the number of its group, its home directory
pub record AccountEntry : Type 0 where
  pub name : List ℕ
  pub number : ℕ
  pub group : ℕ
  pub home : List ℕ

-- a group; listed has for each account, by its place in the table, whether the group's line names it as a member
pub record GroupEntry : Type 0 where
  pub name : List ℕ
  pub number : ℕ
  pub listed : List Bool

-- what a listing says of a file that is present
pub record Stat : Type 0 where
  pub dir : Bool
  pub owner : ℕ
  pub group : ℕ
  pub mode : ℕ

-- a file row: its path, the place of the row of the directory above it, and its stat, none while it is absent
pub record FileEntry : Type 0 where
  pub path : List ℕ
  pub above : ℕ
  pub stat : Option Stat

-- a word of a trust line: a plus, or a name
pub data TrustWord : Type 0 where
  anyone : TrustWord
  named : List ℕ → TrustWord

-- a line of hosts.equiv or of a .rhosts
pub record TrustEntry : Type 0 where
  pub host : TrustWord
  pub user : Option TrustWord

-- the domain that yp.conf names, and the place of its server among the hosts
pub record DomainEntry : Type 0 where
  pub name : List ℕ
  pub server : ℕ

-- the tables of a host, and which of its texts have been read; rhosts and rhosts_read go by account
pub record HostTables : Type 0 where
  pub name : List ℕ
  pub accounts : List AccountEntry
  pub groups : List GroupEntry
  pub files : List FileEntry
  pub equiv : List TrustEntry
  pub domain : Option DomainEntry
  pub rhosts : List (List TrustEntry)
  pub passwd_read : Bool
  pub group_read : Bool
  pub mtree_read : Bool
  pub equiv_read : Bool
  pub ypconf_read : Bool
  pub rhosts_read : List Bool
