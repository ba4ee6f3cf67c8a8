-- What closing a site gives. Assumes nothing.
use Rattle.std.specs.Prelude.{◌≡◌, ℕ, ◌<◌, true, false, length, codes, slice_index_or}
use Rattle.region.specs.Tables.{AccountEntry, FileEntry, HostTables}
use Rattle.region.specs.Sound.{Entry, Each}
use Rattle.allows.specs.Allows.{HomeFile, Exact}
use Rattle.site.specs.Models.{SiteModel}

-- All texts of a host that are wanted have been read; a .rhosts is wanted where it is present in the account's home.
pub record AllRead (t : HostTables) : Type 0 where
  pub passwd : t.passwd_read ≡ true
  pub group : t.group_read ≡ true
  pub mtree : t.mtree_read ≡ true
  pub equiv : t.equiv_read ≡ true
  pub ypconf : t.ypconf_read ≡ true
  pub rhosts : (i r : ℕ) (a : AccountEntry) (x : FileEntry) → Entry t.accounts i a → HomeFile t a (codes "/.rhosts") r x → slice_index_or t.rhosts_read i false ≡ true

-- What closing gives: the same site, which has a host and all that its hosts want, and whose slots hold what the rules allow.
pub record Closes (before after : SiteModel) : Type 0 where
  pub same : after ≡ before
  pub some_host : 0 < length after.hosts
  pub nothing_unread : Each AllRead after.hosts
  pub exact : Exact after.hosts
