-- The forms of a site are well named. Assumes nothing.
use Rattle.std.proofs.Common.{◌≡◌, ℕ, ◌≤◌, true, false, cond, eqb, All, List, [], length, codes, sym, refl, ap, ◌∙◌, subst, ⊎_elim, arith}
use Rattle.std.specs.List.{slice_get}
use Rattle.std.proofs.lemmas.List.Elements.{All-nil}
use Rattle.std.proofs.lemmas.Bool.{cond-true, cond-false, cases_Bool}
use Rattle.rules.specs.Names.{Printable, WellNamed}
use Rattle.text.proofs.Wholes.{name-short, path-short}
use Rattle.region.specs.Privileges.{decoded}
use Rattle.region.specs.Sound.{HostSound, Sound}
use Rattle.region.specs.Tables.{HostTables}
use Rattle.region.specs.declared.privilege.Right.{Right}
use Rattle.region.specs.declared.privilege.Right.TheVariants.{AnyUser, Name, Number, Group, Write, Replace}
use Rattle.allows.specs.Allows.{AnyPrivilege, at, root_anywhere, number_of, Has, Live}
use Rattle.allows.specs.Live.{site_live}
use Rattle.allows.specs.Source.{site_rules}
use Rattle.allows.proofs.Numbers.{Fits, decoded-number, not_root, privilege_of, live_decides}
use Rattle.forms.specs.Forms.{root_form}
use Rattle.forms.specs.Printed.{printed, right_form, form_of, SiteWellNamed}
use Rattle.forms.proofs.Back.{form, solid-host, account-named, account-numbered, solid-account, group-named, group-numbered, solid-group, solid-file, never_alike}
use Rattle.forms.proofs.Lengths.{Proper, name-proper, number-proper, group-proper, write-proper, replace-proper}
use Rattle.forms.proofs.Visible.{solid_piece}

-- a form of a live right is proper
right_proper : (t : HostTables) → HostSound t → (w : Right) → Has t w → Proper (right_form t w)
right_proper t sound AnyUser has = name-proper (codes "any") t.name (solid_piece (codes "any") refl) (solid-host t sound) (name-short t.name sound.named.formed) (omega arith)
right_proper t sound (Name i) has =
    let a = has.0 in
    rw has.1
    (name-proper a.name t.name (solid-account t sound i a has.1) (solid-host t sound) (name-short t.name sound.named.formed) (name-short a.name (account-named t sound i a has.1).formed))
right_proper t sound (Number i) has =
    let a = has.0 in
    rw has.1.there
    (number-proper a.name t.name (solid-account t sound i a has.1.there) (solid-host t sound) (name-short t.name sound.named.formed) a.number (account-numbered t sound i a has.1.there) (name-short a.name (account-named t sound i a has.1.there).formed))
right_proper t sound (Group j) has =
    let b = has.0 in
    rw has.1
    (group-proper b.name t.name (solid-group t sound j b has.1) (solid-host t sound) (name-short t.name sound.named.formed) b.number (group-numbered t sound j b has.1) (name-short b.name (group-named t sound j b has.1).formed))
right_proper t sound (Write r) has =
    let x = has.0 in
    rw has.1
    (write-proper x.path t.name (solid-file t sound r x has.1) (solid-host t sound) (name-short t.name sound.named.formed) (path-short x.path (sound.files.formed r x has.1)))
right_proper t sound (Replace r) has =
    let x = has.0 in
    rw has.1
    (replace-proper x.path t.name (solid-file t sound r x has.1) (solid-host t sound) (name-short t.name sound.named.formed) (path-short x.path (sound.files.formed r x has.1)))

module _ (hs : List HostTables) (sound : Sound hs) where
  proper : (y : AnyPrivilege) → Live hs y → Proper (form hs y)
  proper root_anywhere l = name-proper (codes "root") (codes "any") (solid_piece (codes "root") refl) (solid_piece (codes "any") refl) (omega arith) (omega arith)
  proper (at h w) l = rw l.1 (right_proper l.0 (sound.hosts h l.0 l.1) w l.2)

  form-is : (y : AnyPrivilege) → Fits y → cond (eqb (number_of y) 1416) root_form (printed (decoded (number_of y)) (λ x. printed (slice_get hs x.host) (λ t. right_form t x.right))) ≡ form hs y
  form-is root_anywhere f = refl
  form-is (at h w) f = cond-false _ _ _ (not_root h w f) ∙ ap (λ o. printed o (λ x. printed (slice_get hs x.host) (λ t. right_form t x.right))) (decoded-number h w f)

  -- the privilege of a live number, and that the number prints as it does
  record LiveForm (p : ℕ) : Type 0 where
    pub privilege : AnyPrivilege
    pub live : Live hs privilege
    pub number : number_of privilege ≡ p
    pub prints : form_of hs p ≡ form hs privilege

  live-form : (p : ℕ) → site_live hs p ≡ true → LiveForm p
  live-form p e =
      let r = privilege_of hs p e in
      record {
        privilege = r.0;
        live = (live_decides hs r.0 r.1).0 (ap (site_live hs) r.2 ∙ e);
        number = r.2;
        prints = cond-true (site_live hs p) _ _ e ∙ ap (λ p. cond (eqb p 1416) root_form (printed (decoded p) (λ x. printed (slice_get hs x.host) (λ t. right_form t x.right)))) (sym r.2) ∙ form-is r.0 r.1;
      }

  dead : (p : ℕ) → site_live hs p ≡ false → form_of hs p ≡ []
  dead p e = cond-false (site_live hs p) _ _ e

  live-proper : (p : ℕ) → site_live hs p ≡ true → Proper (form_of hs p)
  live-proper p e = let r = live-form p e in subst Proper (sym r.prints) (proper r.privilege r.live)

  -- what holds of nothing and of every proper form holds of every form
  either : (P : List ℕ → Type 0) → P [] → ((bs : List ℕ) → Proper bs → P bs) → (p : ℕ) → P (form_of hs p)
  either P none some p = ⊎_elim (λ e. some (form_of hs p) (live-proper p e)) (λ e. subst P (sym (dead p e)) none) (cases_Bool (site_live hs p))

  well-named : WellNamed (site_rules hs) (form_of hs)
  well-named = record {
    live_has_a_form = λ p e. (live-proper p e).some;
    dead_has_none = dead;
    at_most_128_bytes = either (λ bs. length bs ≤ 128) (omega arith) (λ bs k. k.short);
    printable = either (All Printable) (All-nil Printable) (λ bs k. k.clean);
    never_alike = λ p q l m e.
        let x = live-form p l in
        let y = live-form q m in
        sym x.number ∙ ap number_of (never_alike hs sound x.privilege y.privilege x.live y.live (sym x.prints ∙ e ∙ y.prints)) ∙ y.number;
  }

pub site_well_named : SiteWellNamed
site_well_named = well-named
