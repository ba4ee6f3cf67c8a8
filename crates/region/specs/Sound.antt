-- What holds of the tables of every site: sizes, forms, and that nothing stands twice. Assumes nothing.
use Rattle.std.specs.Prelude.{◌≡◌, ℕ, ◌≤◌, Bool, true, false, ◌||◌, List, [], ◌∷◌, map, length, take, Some, codes, ◌≢◌}
use Rattle.std.specs.List.{slice_get}
use Rattle.std.specs.Str.{bytes_eq}
use Rattle.text.specs.Bytes.{name}
use Rattle.text.specs.Paths.{path, parent}
use Rattle.region.specs.Tables.{AccountEntry, GroupEntry, FileEntry, HostTables}

-- x is the one at place i of a table
abbrev pub Entry : {X : Type 0} → List X → ℕ → X → Type 0
Entry xs i x = slice_get xs i ≡ Some x

-- what holds of each entry of a table
abbrev pub Each : {X : Type 0} → (X → Type 0) → List X → Type 0
Each {X = X} P xs = (i : ℕ) (x : X) → Entry xs i x → P x

-- no two places of a table have the same key
abbrev pub Distinct : {X K : Type 0} → (X → K) → List X → Type 0
Distinct {X = X} key xs = (i j : ℕ) (x y : X) → Entry xs i x → Entry xs j y → key x ≡ key y → i ≡ j

-- the names that printed forms keep for themselves
abbrev pub reserved : List ℕ → Bool
reserved n = bytes_eq n (codes "any") || bytes_eq n (codes "all")

-- the name of a host, an account or a group
pub record OwnName (n : List ℕ) : Type 0 where
  pub formed : name n ≡ true
  pub free : reserved n ≡ false

pub record AccountFormed (a : AccountEntry) : Type 0 where
  pub named : OwnName a.name
  pub numbered : a.number ≤ 4294967294
  pub grouped : a.group ≤ 4294967294
  pub housed : path a.home ≡ true

pub record AccountsSound (xs : List AccountEntry) : Type 0 where
  pub few : length xs ≤ 16
  pub formed : Each AccountFormed xs
  pub names : Distinct (λ a. a.name) xs

pub record GroupFormed (g : GroupEntry) : Type 0 where
  pub named : OwnName g.name
  pub numbered : g.number ≤ 4294967294

pub record GroupsSound (xs : List GroupEntry) : Type 0 where
  pub few : length xs ≤ 16
  pub formed : Each GroupFormed xs
  pub names : Distinct (λ g. g.name) xs
  pub numbers : Distinct (λ g. g.number) xs

-- the paths of rows 0 to 10, which every host has
abbrev pub fixed_paths : List (List ℕ)
fixed_paths = codes "/" ∷ codes "/etc" ∷ codes "/etc/passwd" ∷ codes "/etc/group" ∷ codes "/etc/hosts.equiv" ∷ codes "/etc/rc" ∷ codes "/etc/rc.local" ∷ codes "/usr" ∷ codes "/usr/lib" ∷ codes "/usr/lib/crontab" ∷ codes "/usr/lib/aliases" ∷ []

-- the row above x is the row of the directory that holds it
pub record Above (xs : List FileEntry) (x : FileEntry) : Type 0 where
  pub row : FileEntry
  pub there : Entry xs x.above row
  pub holds : row.path ≡ parent x.path

pub record FilesSound (xs : List FileEntry) : Type 0 where
  pub few : length xs ≤ 64
  pub fixed : map (λ x. x.path) (take 11 xs) ≡ fixed_paths
  pub formed : Each (λ x. path x.path ≡ true) xs
  pub paths : Distinct (λ x. x.path) xs
  pub above : (r : ℕ) (x : FileEntry) → Entry xs r x → (r ≢ 0) → Above xs x

pub record HostSound (t : HostTables) : Type 0 where
  pub named : OwnName t.name
  pub accounts : AccountsSound t.accounts
  pub groups : GroupsSound t.groups
  pub files : FilesSound t.files

pub record Sound (hs : List HostTables) : Type 0 where
  pub few : length hs ≤ 8
  pub hosts : Each HostSound hs
  pub names : Distinct (λ t. t.name) hs
