-- A site keeps the laws of a rule source, whatever its tables are. Assumes nothing.
use Rattle.std.specs.Prelude.{◌≡◌, ℕ, ◌/◌, ◌<◌, ◌≤◌, Bool, true, false, ◌&&◌, List, Some, None, ◌==◌, ◌≢◌, nat_eq, nat_lt, refl}
use Rattle.std.proofs.Common.{sym, ap, ◌∙◌, subst, ⊎_elim, arith}
use Rattle.std.proofs.lemmas.Bool.{le-ltb, ltb-true, ne_eqb, cond-true, cond-false, cond_both, cases_Bool, cases_lt, and_left, and_right, both_ways}
use Rattle.rules.specs.Rules.{Lawful}
use Rattle.region.specs.Privileges.{decoded}
use Rattle.region.specs.Tables.{HostTables}
use Rattle.allows.specs.Live.{has, site_live}
use Rattle.allows.specs.Slots.{Slot}
use Rattle.allows.specs.Source.{ruled_slot, if_live, site_place, site_rules}

none_is_not_some : {X : Type 0} {x : X} → None ≢ Some x
none_is_not_some h = let z : ◌≡◌ {A = ℕ} 0 1 = cc in omega arith

leads_to_live : (live : ℕ → Bool) (s : Slot) (x : ℕ × ℕ) → if_live live s ≡ Some x → live x.0 ≡ true
leads_to_live live None x e = absurd (none_is_not_some e)
leads_to_live live (Some y) x e =
    ⊎_elim
    (λ t. let q : Some y ≡ Some x = sym (cond-true _ (Some y) None t) ∙ e in let p : y ≡ x = cc in subst (λ z. live z.0 ≡ true) p t)
    (λ f. absurd (none_is_not_some (sym (cond-false _ (Some y) None f) ∙ e)))
    (cases_Bool (live y.0))

place_small : (p : ℕ) → site_place p ≤ 255
place_small p = cond_both (nat_lt p 1417) (p / 177) 0 (λ x. x ≤ 255) (λ e. omega (arith, ltb-true p 1417 e)) (λ _. omega arith)

module _ (hs : List HostTables) where
  live_below : (p : ℕ) → site_live hs p ≡ true → p < 1417
  live_below p e =
      ⊎_elim
      (λ lt. lt)
      (λ le.
      let a : nat_eq p 1416 ≡ false = ne_eqb p 1416 (λ q. omega arith) in
      let b : decoded p ≡ None = cond-false (nat_lt p 1416) _ None (le-ltb p 1416 (omega arith)) in
      absurd (both_ways true (sym e ∙ cond-false (p == 1416) true _ a ∙ ap (has hs) b) refl))
      (cases_lt p 1417)

  pub site-lawful : Lawful (site_rules hs)
  site-lawful = record {
    count_at_most_8192 = omega arith;
    width_at_most_1024 = omega arith;
    place_at_most_255 = place_small;
    live_below_count = live_below;
    place_0_from_count_on = λ p le. cond-false (nat_lt p 1417) (p / 177) 0 (le-ltb p 1417 le);
    dead_holds_nothing = λ g k e. cond-false (site_live hs g && nat_lt k 140) (if_live (site_live hs) (ruled_slot hs g k)) None (and_left _ _ e);
    nothing_from_width_on = λ g k le. cond-false (site_live hs g && nat_lt k 140) (if_live (site_live hs) (ruled_slot hs g k)) None (and_right _ _ (le-ltb k 140 le));
    slot_leads_to_live = λ g k p r e. ⊎_elim
        (λ t. leads_to_live (site_live hs) (ruled_slot hs g k) (p, r) (sym (cond-true _ (if_live (site_live hs) (ruled_slot hs g k)) None t) ∙ e))
        (λ f. absurd (none_is_not_some (sym (cond-false _ (if_live (site_live hs) (ruled_slot hs g k)) None f) ∙ e)))
        (cases_Bool (site_live hs g && nat_lt k 140));
  }
