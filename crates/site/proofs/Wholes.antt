-- Where the check passes, nothing that is wanted is unread. Assumes nothing.
use Rattle.std.proofs.Common.{◌≡◌, ℕ, zero, suc, ◌+◌, ◌<◌, Bool, true, false, cond, not, ◌&&◌, List, [], ◌∷◌, length, get_or, drop, is_some, is_ok, Some, None, codes, Option, Result, refl, ap, ◌∙◌, subst, arith}
use Rattle.std.specs.List.{list_any, find, enumerate_from, position_from}
use Rattle.std.specs.Option.{option_map}
use Rattle.std.specs.Str.{bytes_eq}
use Rattle.std.proofs.lemmas.List.Folds.{list_any_at}
use Rattle.std.proofs.lemmas.List.FromFn.{length-enumerate_from, get_or-enumerate_from}
use Rattle.std.proofs.lemmas.Option.{slice_get_within, get_or_from_slice_get}
use Rattle.std.proofs.lemmas.Iterator.Adapters.{position_from-zero}
use Rattle.std.proofs.lemmas.Slice.Eq.{bytes_eq-Decides}
use Rattle.reading.specs.declared.fault.Kind.{Kind}
use Rattle.reading.specs.declared.fault.Kind.TheVariants.{Passwd, Group, Mtree, Equiv, Ypconf, Rhosts}
use Rattle.reading.specs.declared.fault.SiteFault.{SiteFault}
use Rattle.region.specs.Tables.{AccountEntry, FileEntry, HostTables}
use Rattle.region.specs.Sound.{Entry, Each}
use Rattle.allows.specs.Allows.{HomeFile}
use Rattle.allows.specs.Paths.{in_home}
use Rattle.allows.specs.Trust.{home_row}
use Rattle.host.specs.Wanted.{wants_rhosts_of, wants_rhosts, unread, first_unread}
use Rattle.site.specs.Checks.{unread_or, checked_from, checked}
use Rattle.site.specs.Closing.{AllRead}

-- a kind that is not the first unread one is not unread
passed : (unread : Bool) (k : Kind) (rest : List (Kind × Bool)) → option_map (λ p. p.0) (find (λ p. p.1) ((k, unread) ∷ rest)) ≡ None → (unread ≡ false) × (option_map (λ p. p.0) (find (λ p. p.1) rest) ≡ None)
passed true k rest e = cc
passed false k rest e = (refl, e)

-- if the test of the account at a place passes, some account's does
some-wanted : (test : ℕ × AccountEntry → Bool) (accounts : List AccountEntry) (i : ℕ) (a : AccountEntry) → Entry accounts i a → test (i, a) ≡ true → list_any test (enumerate_from 0 accounts) ≡ true
some-wanted test accounts i a there passes =
    let lt = slice_get_within accounts i a there in
    let same : 0 + i ≡ i = omega arith in
    let here : get_or (enumerate_from 0 accounts) i (i, a) ≡ (i, a) = get_or-enumerate_from 0 accounts i (i, a) lt ∙ ap (λ n. (n, get_or accounts i a)) same ∙ ap (λ b. (i, b)) (get_or_from_slice_get accounts i a a there) in
    list_any_at test (enumerate_from 0 accounts) i (i, a) (omega (arith, length-enumerate_from 0 accounts)) (ap test here ∙ passes)

or_before : (b : Bool) (k : ℕ) (o : Option ℕ) → is_some o ≡ true → is_some (cond b (Some k) o) ≡ true
or_before true k o h = refl
or_before false k o h = h

-- a row that passes a test has a place
has-place : (p : FileEntry → Bool) (k : ℕ) (xs : List FileEntry) (i : ℕ) (x : FileEntry) → Entry xs i x → p x ≡ true → is_some (position_from p k xs) ≡ true
has-place p k [] i x e h = cc
has-place p k (y ∷ xs) zero x e h =
    let first : Some y ≡ Some x = e in
    let same : y ≡ x = cc in
    ap (λ b. is_some (cond b (Some k) (position_from p (k + 1) xs))) (ap p same ∙ h)
has-place p k (y ∷ xs) (suc i) x e h = or_before (p y) k _ (has-place p (k + 1) xs i x e h)

home-place : (t : HostTables) (a : AccountEntry) (file : List ℕ) (r : ℕ) (x : FileEntry) → HomeFile t a file r x → is_some (home_row t a file) ≡ true
home-place t a file r x h =
    ap is_some (position_from-zero (λ y. bytes_eq y.path (in_home a.home file) && is_some y.stat) t.files)
    ∙ has-place (λ y. bytes_eq y.path (in_home a.home file) && is_some y.stat) 0 t.files r x h.row
    (ap (λ b. b && is_some x.stat) ((bytes_eq-Decides x.path (in_home a.home file)).1 h.path) ∙ ap is_some h.present)

not_false : (b : Bool) → not b ≡ false → b ≡ true
not_false true e = refl
not_false false e = cc

was_read : (read there any : Bool) → any ≡ false → there ≡ true → ((not read && there) ≡ true → any ≡ true) → read ≡ true
was_read true there any none h f = refl
was_read false there any none h f = let wanted = f h in cc

all_read : (t : HostTables) → first_unread t ≡ None → AllRead t
all_read t e =
    let p = passed (not t.passwd_read) Passwd (drop 1 (unread t)) e in
    let g = passed (not t.group_read) Group (drop 2 (unread t)) p.1 in
    let m = passed (not t.mtree_read) Mtree (drop 3 (unread t)) g.1 in
    let q = passed (not t.equiv_read) Equiv (drop 4 (unread t)) m.1 in
    let y = passed (not t.ypconf_read) Ypconf (drop 5 (unread t)) q.1 in
    let none = (passed (wants_rhosts t) Rhosts [] y.1).0 in
    record {
      passwd = not_false _ p.0;
      group = not_false _ g.0;
      mtree = not_false _ m.0;
      equiv = not_false _ q.0;
      ypconf = not_false _ y.0;
      rhosts = λ i r a x there file. was_read (get_or t.rhosts_read i false) (is_some (home_row t a (codes "/.rhosts"))) (wants_rhosts t) none (home-place t a (codes "/.rhosts") r x file) (some-wanted (λ w. wants_rhosts_of t w.0 w.1) t.accounts i a there);
    }

none-missing : (h : ℕ) (o : Option Kind) (rest : Result (Unit {0}) SiteFault) → is_ok (unread_or h o rest) ≡ true → (o ≡ None) × (is_ok rest ≡ true)
none-missing h None rest e = (refl, e)
none-missing h (Some k) rest e = cc

each_read : (h : ℕ) (ts : List HostTables) → is_ok (checked_from h ts) ≡ true → Each AllRead ts
each_read h [] ok i x e = cc
each_read h (t ∷ ts) ok zero x e = let first : Some t ≡ Some x = e in let same : t ≡ x = cc in subst AllRead same (all_read t (none-missing h (first_unread t) _ ok).0)
each_read h (t ∷ ts) ok (suc i) x e = each_read (h + 1) ts (none-missing h (first_unread t) _ ok).1 i x e

pub nothing_unread : (ts : List HostTables) → is_ok (checked ts) ≡ true → Each AllRead ts
nothing_unread [] ok = cc
nothing_unread (t ∷ ts) ok = each_read 0 (t ∷ ts) ok

pub some_host : (ts : List HostTables) → is_ok (checked ts) ≡ true → 0 < length ts
some_host [] ok = cc
some_host (t ∷ ts) ok = omega arith
