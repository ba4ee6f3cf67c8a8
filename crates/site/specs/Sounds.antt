-- The hosts of a site are sound. Assumes nothing.
use Rattle.std.specs.Prelude.{◌≡◌, ℕ, zero, suc, List, [], ◌∷◌, map, length, take, Some}
use Rattle.std.proofs.Common.{sym, ap, subst, ◌∙◌, arith, length-take}
use Rattle.std.specs.List.{slice_get}
use Rattle.std.specs.Option.{option_map}
use Rattle.region.specs.Tables.{HostTables}
use Rattle.region.specs.Sound.{Entry, OwnName, HostSound, Sound}
use Rattle.tables.specs.HostsText.{hosts_of}
use Rattle.tables.proofs.HostLaws.{hosts_sound}
use Rattle.host.specs.declared.host.Host.{Host}
use Rattle.host.specs.Tables.{host_tables}
use Rattle.host.proofs.Sounds.{host_sound}
use Rattle.site.specs.declared.open.OpenSite.{OpenSite}
use Rattle.site.specs.Models.{open_model}

entry_key : {X K : Type 0} (key : X → K) (xs : List X) (i : ℕ) (x : X) → Entry xs i x → Entry (map key xs) i (key x)
entry_key key [] i x e = ap (option_map key) e
entry_key key (y ∷ xs) zero x e = ap (option_map key) e
entry_key key (y ∷ xs) (suc i) x e = entry_key key xs i x e

each_first : (P : HostTables → Type 0) (n : ℕ) (hosts : List Host) (i : ℕ) (t : HostTables) → Entry (take n (map host_tables hosts)) i t → ((h : Host) → host_tables h ≡ t → P t) → P t
each_first P zero hosts i t e f = let z : ◌≡◌ {A = ℕ} 0 1 = cc in absurd (omega arith)
each_first P (suc n) [] i t e f = let z : ◌≡◌ {A = ℕ} 0 1 = cc in absurd (omega arith)
each_first P (suc n) (h ∷ hosts) zero t e f = let same : Some (host_tables h) ≡ Some t = e in f h (cc)
each_first P (suc n) (h ∷ hosts) (suc i) t e f = each_first P n hosts i t e f

module _ (s : OpenSite) where
  name-at : (i : ℕ) (t : HostTables) → Entry (open_model s).hosts i t → Entry (hosts_of s.names.table) i t.name
  name-at i t e = ap (λ ns. slice_get ns i) (sym s.named) ∙ entry_key (λ u. u.name) (open_model s).hosts i t e

  pub site-sound : Sound (open_model s).hosts
  site-sound = record {
    few = let few = (hosts_sound s.names.table).few in simp length-take (omega arith);
    hosts = λ i t e. each_first HostSound (length (hosts_of s.names.table)) s.hosts i t e (λ h same. subst HostSound same (host_sound h (subst (λ u. OwnName u.name) (sym same) ((hosts_sound s.names.table).formed i t.name (name-at i t e)))));
    names = λ i j t u e f same. (hosts_sound s.names.table).names i j t.name u.name (name-at i t e) (name-at j u f) same;
  }
