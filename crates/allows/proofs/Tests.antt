-- What the tests of the rules say. Assumes nothing.
use Rattle.std.proofs.Common.{◌≡◌, ℕ, zero, suc, Bool, true, false, ◌&&◌, List, [], ◌∷◌, get_or, is_some, Some, None, codes, Decides, Option, sym, refl, ap, ◌∙◌}
use Rattle.std.specs.List.{slice_get, list_any}
use Rattle.std.specs.Str.{bytes_eq}
use Rattle.std.proofs.lemmas.Slice.Eq.{bytes_eq-Decides}
use Rattle.std.proofs.lemmas.Bool.{both_ways}
use Rattle.std.proofs.lemmas.Bool.Decides.{Decides-eqb, Decides-like, Decides-and, Decides-or, Decides-not}
use Rattle.text.specs.Bytes.{and_then}
use Rattle.region.specs.Sound.{Entry, Distinct}
use Rattle.region.specs.Tables.{AccountEntry, GroupEntry, Stat, FileEntry, TrustWord, anyone, named, TrustEntry, HostTables}
use Rattle.allows.specs.Allows.{HomeFile, Belongs, WordFits, UserFits, LetsIn, SomeLetsIn, EquivLetsIn, OwnRhosts, RhostsLetsIn}
use Rattle.allows.specs.Paths.{in_home}
use Rattle.allows.specs.Slots.{belongs}
use Rattle.allows.specs.Trust.{word_fits, user_fits, line_fits, rhosts_of, home_row, owned_by, own_rhosts, by_equiv, by_rhosts}
use Rattle.allows.proofs.Numbers.{never}
use Rattle.allows.proofs.Places.{nothing, place_in, place-alone, some-decides}

present-is : (o : Option Stat) → Decides (is_some o) ((s : Stat) × (o ≡ Some s))
present-is None = never (λ h. nothing h.1)
present-is (Some s) = ((λ _. (s, refl)), (λ _. refl))

-- the test of a file in a home
pub home_decides : (a : AccountEntry) (file : List ℕ) (x : FileEntry) → Decides (bytes_eq x.path (in_home a.home file) && is_some x.stat) ((x.path ≡ in_home a.home file) × ((s : Stat) × (x.stat ≡ Some s)))
home_decides a file x = Decides-and _ _ (bytes_eq-Decides x.path (in_home a.home file)) (present-is x.stat)

module _ (t : HostTables) (a : AccountEntry) (file : List ℕ) where
  pub home-in : (r : ℕ) → home_row t a file ≡ Some r → (x : FileEntry) × HomeFile t a file r x
  home-in r e =
      let f = place_in (λ x. bytes_eq x.path (in_home a.home file) && is_some x.stat) t.files r e in
      let h = (home_decides a file f.entry).0 f.passes in
      (f.entry, record { row = f.there; path = h.0; stat = h.1.0; present = h.1.1 })

  pub home_out : Distinct (λ x. x.path) t.files → (r : ℕ) (x : FileEntry) → HomeFile t a file r x → home_row t a file ≡ Some r
  home_out apart r x f = place-alone _ (λ x. x.path) (in_home a.home file) (λ y q. ((home_decides a file y).0 q).0) t.files apart r x f.row ((home_decides a file x).1 (f.path, (f.stat, f.present)))

listed_decides : (xs : List Bool) (i : ℕ) → Decides (get_or xs i false) (Entry xs i true)
listed_decides [] i = never (λ h. nothing h)
listed_decides (b ∷ xs) zero = ((λ e. ap Some e), (λ h. let q : Some b ≡ Some true = h in cc))
listed_decides (b ∷ xs) (suc i) = listed_decides xs i

pub belongs_decides : (b : GroupEntry) (i : ℕ) (a : AccountEntry) → Decides (belongs b i a) (Belongs b i a)
belongs_decides b i a = Decides-or _ _ (listed_decides b.listed i) (Decides-eqb a.group b.number)

word_decides : (w : TrustWord) (n : List ℕ) → Decides (word_fits w n) (WordFits w n)
word_decides anyone n = ((λ _. tt), (λ _. refl))
word_decides (named m) n = bytes_eq-Decides m n

user_decides : (o : Option TrustWord) (user own : List ℕ) → Decides (user_fits o user own) (UserFits o user own)
user_decides None user own = bytes_eq-Decides user own
user_decides (Some w) user own = word_decides w user

line_decides : (s : HostTables) (b a : AccountEntry) (l : TrustEntry) → Decides (line_fits s b a l) (LetsIn s b a l)
line_decides s b a l = Decides-like _ (λ h. record { host = h.0; user = h.1 }) (λ h. (h.host, h.user)) (Decides-and _ _ (word_decides l.host s.name) (user_decides l.user b.name a.name))

some-lets_in : (ls : List TrustEntry) (s : HostTables) (b a : AccountEntry) → Decides (list_any (line_fits s b a) ls) (SomeLetsIn ls s b a)
some-lets_in ls s b a = some-decides (line_fits s b a) (LetsIn s b a) (line_decides s b a) ls

pub equiv_decides : (t : HostTables) (a : AccountEntry) (s : HostTables) (b : AccountEntry) → Decides (by_equiv t a s b) (EquivLetsIn t a s b)
equiv_decides t a s b = Decides-like _ (λ h. record { not_root = h.0; line = h.1 }) (λ h. (h.not_root, h.line)) (Decides-and _ _ (Decides-not _ (Decides-eqb a.number 0)) (some-lets_in t.equiv s b a))

module _ (t : HostTables) (a : AccountEntry) (apart : Distinct (λ x. x.path) t.files) where
  own-to : (o : Option ℕ) → home_row t a (codes "/.rhosts") ≡ o → owned_by a.number (and_then o (λ r. and_then (slice_get t.files r) (λ x. x.stat))) ≡ true → OwnRhosts t a
  own-to None is e = absurd (both_ways true (sym e) refl)
  own-to (Some r) is e =
      let h = home-in t a (codes "/.rhosts") r is in
      let q : owned_by a.number h.0.stat ≡ true = sym (ap (λ o. owned_by a.number (and_then o (λ x. x.stat))) h.1.row) ∙ e in
      record { row = r; entry = h.0; file = h.1; owned = (Decides-eqb _ _).0 (sym (ap (owned_by a.number) h.1.present) ∙ q) }

  own-from : OwnRhosts t a → own_rhosts t a ≡ true
  own-from h =
      ap (λ o. owned_by a.number (and_then o (λ r. and_then (slice_get t.files r) (λ x. x.stat)))) (home_out t a (codes "/.rhosts") apart h.row h.entry h.file)
      ∙ ap (λ o. owned_by a.number (and_then o (λ x. x.stat))) h.file.row
      ∙ ap (owned_by a.number) h.file.present ∙ (Decides-eqb h.file.stat.owner a.number).1 h.owned

  pub rhosts-decides : (i : ℕ) (s : HostTables) (b : AccountEntry) → Decides (by_rhosts t i a s b) (RhostsLetsIn t i a s b)
  rhosts-decides i s b =
      Decides-like _ (λ h. record { line = h.0; own = h.1 }) (λ h. (h.line, h.own))
      (Decides-and _ _ (some-lets_in (rhosts_of t i) s b a) (own-to (home_row t a (codes "/.rhosts")) refl, own-from))
