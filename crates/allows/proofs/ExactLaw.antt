-- The slots of a site hold what the rules allow. Assumes nothing.
use Rattle.std.proofs.Common.{◌≡◌, ℕ, Bool, true, ◌&&◌, ltb, List, Some, None, sym, refl, ap, ◌∙◌, subst}
use Rattle.std.proofs.lemmas.Bool.{cond-true, lt-ltb, and_parts, and_from}
use Rattle.rules.specs.Chains.{Grants}
use Rattle.region.specs.Sound.{Sound}
use Rattle.region.specs.Tables.{HostTables}
use Rattle.allows.specs.Allows.{AnyPrivilege, number_of, Live, Allows, Allowed, LiveNumber, Exact, AllowedExactly}
use Rattle.allows.specs.Live.{site_live}
use Rattle.allows.specs.Slots.{Slot}
use Rattle.allows.specs.Source.{ruled_slot, if_live, site_slot, site_rules}
use Rattle.allows.proofs.AllowedSlots.{allowed-slot}
use Rattle.allows.proofs.Bounds.{live-fits}
use Rattle.allows.proofs.Numbers.{Fits, ruled_is, privilege_of, live_decides, placed, apart}
use Rattle.allows.proofs.Places.{nothing, only}
use Rattle.allows.proofs.SlotsAllowed.{slot-allowed}

live_parts : (live : ℕ → Bool) (s : Slot) (x : ℕ × ℕ) → if_live live s ≡ Some x → (s ≡ Some x) × (live x.0 ≡ true)
live_parts live None x e = nothing e
live_parts live (Some y) x e = only _ _ _ e (λ t e. let q : y ≡ x = cc in (e, subst (λ z. live z.0 ≡ true) q t))

module _ (hs : List HostTables) (sound : Sound hs) where
  allowed_at : (y : AnyPrivilege) → Fits y → (k p u : ℕ) → site_slot hs (number_of y) k ≡ Some (p, u) → Allowed hs p u (number_of y)
  allowed_at y f k p u e = only _ _ _ e (λ b e.
      let r = live_parts (site_live hs) (ruled_slot hs (number_of y) k) (p, u) e in
      let d = slot-allowed hs sound p u y k (sym (ruled_is hs y k f) ∙ r.0) in
      record {
        giver = d.giver;
        given = y;
        rule = d.rule;
        giver_live = (live_decides hs d.giver d.fits).0 (ap (site_live hs) d.is ∙ r.1);
        given_live = (live_decides hs y f).0 (and_parts _ _ b).0;
        giver_number = d.is;
        given_number = refl;
      })

  grants-allowed : (p u g : ℕ) → Grants (site_rules hs) p g u → Allowed hs p u g
  grants-allowed p u g s = only (site_live hs g && ltb s.0 140) (if_live (site_live hs) (ruled_slot hs g s.0)) (p, u) s.1 (λ b e.
      let r = privilege_of hs g (and_parts (site_live hs g) (ltb s.0 140) b).0 in
      subst (λ v. Allowed hs p u v) r.2 (allowed_at r.0 r.1 s.0 p u (subst (λ v. site_slot hs v s.0 ≡ Some (p, u)) (sym r.2) s.1)))

  live-number : (y : AnyPrivilege) → Live hs y → site_live hs (number_of y) ≡ true
  live-number y l = (live_decides hs y (live-fits hs sound y l)).1 l

  grants-at : (x y : AnyPrivilege) (u : ℕ) → Allows hs x u y → Live hs x → Live hs y → Grants (site_rules hs) (number_of x) (number_of y) u
  grants-at x y u al lx ly =
      let f = allowed-slot hs sound al lx in
      (f.slot, cond-true _ _ _ (and_from _ _ (live-number y ly) (lt-ltb f.slot 140 f.inside)) ∙ ap (if_live (site_live hs)) (ruled_is hs y f.slot (live-fits hs sound y ly) ∙ f.holds) ∙ cond-true _ _ _ (live-number x lx))

  allowed-grants : (p u g : ℕ) → Allowed hs p u g → Grants (site_rules hs) p g u
  allowed-grants p u g r = subst (λ v. Grants (site_rules hs) v g u) r.giver_number (subst (λ v. Grants (site_rules hs) (number_of r.giver) v u) r.given_number (grants-at r.giver r.given u r.rule r.giver_live r.given_live))

  live-is : (p : ℕ) → site_live hs p ≡ true → LiveNumber hs p
  live-is p e = let r = privilege_of hs p e in record { privilege = r.0; live = (live_decides hs r.0 r.1).0 (ap (site_live hs) r.2 ∙ e); number = r.2 }

  site-exact : Exact hs
  site-exact = record {
    slots_hold_what_is_allowed = λ p u g. (grants-allowed p u g, allowed-grants p u g);
    live_numbers_are_live_privileges = λ p. (live-is p, λ l. ap (site_live hs) (sym l.number) ∙ live-number l.privilege l.live);
    numbers_tell_privileges_apart = λ x y lx ly e. apart x y (live-fits hs sound x lx) (live-fits hs sound y ly) e;
    places_are_hosts = λ x l. placed x (live-fits hs sound x l);
  }

pub allowed_exactly : AllowedExactly
allowed_exactly = site-exact
