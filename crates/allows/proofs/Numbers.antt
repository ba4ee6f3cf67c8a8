-- Privileges and their numbers, and which are live. Assumes nothing.
use Rattle.std.proofs.Common.{◌≡◌, ℕ, ◌+◌, ◌*◌, ◌/◌, ◌%◌, ◌<◌, true, false, eqb, ltb, List, length, Some, None, Decides, Option, sym, refl, ap, ◌∙◌, subst, ⊎_elim, arith}
use Rattle.std.specs.List.{slice_get}
use Rattle.std.proofs.lemmas.Bool.{cond-true, cond-false, cond_both, lt-ltb, le-ltb, ltb-true, ltb-false, ne_eqb, eq-eqb, eqb-true, cases_Bool, both_ways}
use Rattle.std.proofs.lemmas.Bool.Decides.{Decides-at, Decides-like}
use Rattle.text.specs.Bytes.{and_then}
use Rattle.region.specs.Privileges.{right_at, offset, decoded, Fitting}
use Rattle.region.specs.Sound.{Entry}
use Rattle.region.specs.Tables.{AccountEntry, HostTables}
use Rattle.region.specs.declared.privilege.Privilege.{Privilege}
use Rattle.region.specs.declared.privilege.Right.{Right}
use Rattle.region.specs.declared.privilege.Right.TheVariants.{AnyUser, Name, Number, Group, Write, Replace}
use Rattle.allows.specs.Allows.{AnyPrivilege, at, root_anywhere, number_of, host_of, FirstAccount, Has, Live}
use Rattle.allows.specs.Live.{numbered, is_place, host_has, has_at, has, site_live}
use Rattle.allows.specs.Slots.{Slot, root_slot, right_slot}
use Rattle.allows.specs.Source.{ruled_slot, site_place}
use Rattle.allows.proofs.Places.{nothing, entry_lt, entry_has, entry-same, place_in, place_out}

-- a host below 8 and a place that a host can have
abbrev pub Fits : AnyPrivilege → Type 0
Fits (at h w) = (h < 8) × Fitting w
Fits root_anywhere = Unit {0}

offset_lt : (w : Right) → Fitting w → offset w < 177
offset_lt AnyUser f = omega arith
offset_lt (Name i) f = omega arith
offset_lt (Number i) f = omega arith
offset_lt (Group i) f = omega arith
offset_lt (Write i) f = omega arith
offset_lt (Replace i) f = omega arith

right_offset : (w : Right) → Fitting w → right_at (offset w) ≡ w
right_offset AnyUser f = refl
right_offset (Name i) f = rw (le-ltb (1 + i) 1 (omega arith), lt-ltb (1 + i) 17 (omega arith)) (ap Name (omega arith))
right_offset (Number i) f = rw (le-ltb (17 + i) 1 (omega arith), le-ltb (17 + i) 17 (omega arith), lt-ltb (17 + i) 33 (omega arith)) (ap Number (omega arith))
right_offset (Group i) f = rw (le-ltb (33 + i) 1 (omega arith), le-ltb (33 + i) 17 (omega arith), le-ltb (33 + i) 33 (omega arith), lt-ltb (33 + i) 49 (omega arith)) (ap Group (omega arith))
right_offset (Write i) f = rw (le-ltb (49 + i) 1 (omega arith), le-ltb (49 + i) 17 (omega arith), le-ltb (49 + i) 33 (omega arith), le-ltb (49 + i) 49 (omega arith), lt-ltb (49 + i) 113 (omega arith)) (ap Write (omega arith))
right_offset (Replace i) f = rw (le-ltb (113 + i) 1 (omega arith), le-ltb (113 + i) 17 (omega arith), le-ltb (113 + i) 33 (omega arith), le-ltb (113 + i) 49 (omega arith), le-ltb (113 + i) 113 (omega arith)) (ap Replace (omega arith))

offset_right : (o : ℕ) → o < 177 → Fitting (right_at o) × (offset (right_at o) ≡ o)
offset_right o lt =
    let P : Right → Type 0 = λ w. Fitting w × (offset w ≡ o) in
    cond_both (ltb o 1) _ _ P (λ e. (tt, omega (arith, ltb-true o 1 e))) (λ e1.
    cond_both (ltb o 17) _ _ P (λ e. (omega (arith, ltb-true o 17 e), omega (arith, ltb-false o 1 e1))) (λ e2.
    cond_both (ltb o 33) _ _ P (λ e. (omega (arith, ltb-true o 33 e), omega (arith, ltb-false o 17 e2))) (λ e3.
    cond_both (ltb o 49) _ _ P (λ e. (omega (arith, ltb-true o 49 e), omega (arith, ltb-false o 33 e3))) (λ e4.
    cond_both (ltb o 113) _ _ P (λ e. (omega (arith, ltb-true o 113 e), omega (arith, ltb-false o 49 e4))) (λ e5. (omega arith, omega (arith, ltb-false o 113 e5)))))))

abbrev made : ℕ → Right → Option Privilege
made h w = Some (record { host = h; right = w })

made_same : {a b : ℕ} {x y : Right} → a ≡ b → x ≡ y → made a x ≡ made b y
made_same {b = b} {x = x} p q = ap (λ a. made a x) p ∙ ap (made b) q

module _ (h : ℕ) (w : Right) (f : Fits (at h w)) where
  number_lt : number_of (at h w) < 1416
  number_lt = let l = offset_lt w f.1 in omega arith

  pub decoded-number : decoded (number_of (at h w)) ≡ made h w
  decoded-number =
      let l = offset_lt w f.1 in
      let a : (h * 177 + offset w) / 177 ≡ h = omega arith in
      let b : (h * 177 + offset w) % 177 ≡ offset w = omega arith in
      let c : right_at ((h * 177 + offset w) % 177) ≡ w = ap right_at b ∙ right_offset w f.1 in
      cond-true (ltb (h * 177 + offset w) 1416) _ None (lt-ltb _ 1416 number_lt) ∙ made_same a c

  pub not_root : eqb (number_of (at h w)) 1416 ≡ false
  not_root = ne_eqb (number_of (at h w)) 1416 (λ e. let l = number_lt in omega arith)

pub placed : (x : AnyPrivilege) → Fits x → site_place (number_of x) ≡ host_of x
placed root_anywhere f = refl
placed (at h w) f = let l = offset_lt w f.1 in cond-true (ltb (h * 177 + offset w) 1417) _ 0 (lt-ltb _ 1417 (omega arith)) ∙ omega arith

pub apart : (x y : AnyPrivilege) → Fits x → Fits y → number_of x ≡ number_of y → x ≡ y
apart root_anywhere root_anywhere f g e = refl
apart root_anywhere (at h w) f g e = nothing (ap decoded e ∙ decoded-number h w g)
apart (at h w) root_anywhere f g e = nothing (ap decoded (sym e) ∙ decoded-number h w f)
apart (at h w) (at i v) f g e = ap (λ (z : Privilege). at z.host z.right) (let q : made h w ≡ made i v = sym (decoded-number h w f) ∙ ap decoded e ∙ decoded-number i v g in cc)

-- the slots of a privilege, by its kind
abbrev pub slots : List HostTables → AnyPrivilege → ℕ → Slot
slots hs (at h w) k = and_then (slice_get hs h) (λ t. right_slot hs t h w k)
slots hs root_anywhere k = root_slot hs k

pub ruled_is : (hs : List HostTables) (y : AnyPrivilege) (k : ℕ) → Fits y → ruled_slot hs (number_of y) k ≡ slots hs y k
ruled_is hs (at h w) k f = cond-false (eqb (number_of (at h w)) 1416) _ _ (not_root h w f) ∙ ap (λ o. and_then o (λ x. and_then (slice_get hs x.host) (λ t. right_slot hs t x.host x.right k))) (decoded-number h w f)
ruled_is hs root_anywhere k f = refl

-- a live number is one of a privilege
pub privilege_of : (hs : List HostTables) (g : ℕ) → site_live hs g ≡ true → (y : AnyPrivilege) × Fits y × (number_of y ≡ g)
privilege_of hs g e = ⊎_elim
    (λ t. (root_anywhere, tt, sym (eqb-true g 1416 t)))
    (λ f.
    ⊎_elim
    (λ lt. let l = ltb-true g 1416 lt in let o = offset_right (g % 177) (omega arith) in (at (g / 177) (right_at (g % 177)), (omega arith, o.0), (let q = o.1 in omega arith)))
    (λ ge. absurd (both_ways true (sym e ∙ cond-false (eqb g 1416) true _ f ∙ ap (has hs) (cond-false (ltb g 1416) _ None ge)) refl))
    (cases_Bool (ltb g 1416)))
    (cases_Bool (eqb g 1416))

entry_decides : {X : Type 0} (xs : List X) (i : ℕ) → Decides (ltb i (length xs)) ((x : X) × Entry xs i x)
entry_decides xs i = ((λ e. entry_has xs i (ltb-true i (length xs) e)), (λ h. lt-ltb i (length xs) (entry_lt xs i h.0 h.1)))

pub never : {P : Type 0} → (P → ⊥) → Decides false P
never n = ((λ e. absurd (both_ways true (sym e) refl)), (λ p. absurd (n p)))

-- the first account of a number, as a place and as an account
pub numbered-first : (t : HostTables) (i : ℕ) (a : AccountEntry) → FirstAccount t i a → numbered a.number t.accounts ≡ Some i
numbered-first t i a f = place_out (λ b. eqb b.number a.number) t.accounts i a f.there (eq-eqb _ _ refl) (λ j b lt e q. f.none_before j b lt e (eqb-true _ _ q))

first_decides : (t : HostTables) (i : ℕ) (o : Option AccountEntry) → slice_get t.accounts i ≡ o → Decides (is_place i (and_then o (λ a. numbered a.number t.accounts))) ((a : AccountEntry) × FirstAccount t i a)
first_decides t i None is = never (λ h. nothing (sym is ∙ h.1.there))
first_decides t i (Some a) is = (to (numbered a.number t.accounts) refl, from) where
  to : (o : Option ℕ) → numbered a.number t.accounts ≡ o → is_place i o ≡ true → (a : AccountEntry) × FirstAccount t i a
  to None at_j e = absurd (both_ways true (sym e) refl)
  to (Some j) at_j e =
      let f = place_in (λ b. eqb b.number a.number) t.accounts j at_j in
      let q : j ≡ i = eqb-true j i e in
      (a, record { there = is; none_before = λ k b lt h s. f.none_before k b (omega arith) h (eq-eqb _ _ s) })

  from : (a : AccountEntry) × FirstAccount t i a → is_place i (numbered a.number t.accounts) ≡ true
  from h =
      let v : h.0 ≡ a = entry-same t.accounts i i h.0 a h.1.there is refl in
      ap (is_place i) (ap (λ (z : AccountEntry). numbered z.number t.accounts) (sym v) ∙ numbered-first t i h.0 h.1) ∙ eq-eqb i i refl

pub has_decides : (t : HostTables) (w : Right) → Decides (host_has t w) (Has t w)
has_decides t AnyUser = ((λ _. tt), (λ _. refl))
has_decides t (Name i) = entry_decides t.accounts i
has_decides t (Number i) = first_decides t i (slice_get t.accounts i) refl
has_decides t (Group i) = entry_decides t.groups i
has_decides t (Write i) = entry_decides t.files i
has_decides t (Replace i) = entry_decides t.files i

at_decides : (hs : List HostTables) (h : ℕ) (w : Right) (o : Option HostTables) → slice_get hs h ≡ o → Decides (has_at o w) (Live hs (at h w))
at_decides hs h w None is = never (λ l. nothing (sym is ∙ l.1))
at_decides hs h w (Some t) is = Decides-like _ (λ x. (t, is, x)) (λ l. subst (λ z. Has z w) (entry-same hs h h l.0 t l.1 is refl) l.2) (has_decides t w)

-- a privilege is live if its number is
pub live_decides : (hs : List HostTables) (y : AnyPrivilege) → Fits y → Decides (site_live hs (number_of y)) (Live hs y)
live_decides hs (at h w) f = Decides-at _ _ (cond-false (eqb (number_of (at h w)) 1416) true _ (not_root h w f) ∙ ap (has hs) (decoded-number h w f)) (at_decides hs h w (slice_get hs h) refl)
live_decides hs root_anywhere f = ((λ _. tt), (λ _. refl))
