-- What holds of the trust lines and the domain that were read. Assumes nothing.
use Rattle.std.specs.Prelude.{◌≡◌, ℕ, ◌<◌, ◌≤◌, true, List, length, Some, None, Option}
use Rattle.text.specs.Bytes.{name}
use Rattle.region.specs.Tables.{TrustWord, anyone, named, TrustEntry, DomainEntry}
use Rattle.region.specs.Sound.{Each}

abbrev pub WordFormed : TrustWord → Type 0
WordFormed anyone = Unit {0}
WordFormed (named n) = name n ≡ true

abbrev pub UserFormed : Option TrustWord → Type 0
UserFormed None = Unit {0}
UserFormed (Some w) = WordFormed w

-- a word is a plus or has the form of a name
pub record TrustFormed (x : TrustEntry) : Type 0 where
  pub host : WordFormed x.host
  pub user : UserFormed x.user

pub record TrustSound (most : ℕ) (xs : List TrustEntry) : Type 0 where
  pub few : length xs ≤ most
  pub formed : Each TrustFormed xs

-- the domain has the form of a name, and its server is one of the hosts
pub record DomainFormed (hosts : List (List ℕ)) (d : DomainEntry) : Type 0 where
  pub formed : name d.name ≡ true
  pub served : d.server < length hosts
