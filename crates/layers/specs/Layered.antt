-- A source with assumptions or bars keeps the laws of a source.
use Rattle.std.specs.Prelude.{◌≡◌, ℕ, ◌-◌, Bool, true, false, List, Some, None, Option, refl}
use Rattle.std.proofs.Common.{arith}
use Rattle.std.specs.List.{slice_get}
use Rattle.std.proofs.lemmas.Bool.Decides.{nat_tests}
use Rattle.rules.specs.Rules.{Rules, Lawful}
use Rattle.layers.specs.Layers.{granted, member, unless_barred, with_assumed, with_barred}

-- what is barred is told by both ends
pub unless_is : (bs : List ℕ) (o : Option (ℕ × ℕ)) (x : ℕ × ℕ) → unless_barred bs o ≡ Some x → (o ≡ Some x) × (member x.0 bs ≡ false)
unless_is bs None x e = cc
unless_is bs (Some y) x e = (grind arith, grind arith)

-- what an assumption puts into a slot is the one that grants, live, under rule 200
pub granted_is : (live : ℕ → Bool) (g : ℕ) (o : Option (ℕ × ℕ)) (x : ℕ × ℕ) → granted live g o ≡ Some x → (y : ℕ × ℕ) × (o ≡ Some y) × (y.0 ≡ x.0) × (y.1 ≡ g) × (x.1 ≡ 200) × (live x.0 ≡ true)
granted_is live g None x e = cc
granted_is live g (Some y) x e = (y, refl, grind (arith, nat_tests), grind (arith, nat_tests), grind (arith, nat_tests), grind (arith, nat_tests))

-- and nothing into a slot of a dead one
granted_dead : (live : ℕ → Bool) (g : ℕ) (o : Option (ℕ × ℕ)) → live g ≡ false → granted live g o ≡ None
granted_dead live g None h = refl
granted_dead live g (Some x) h = grind arith

pub assumed_lawful : (r : Rules) (ps : List (ℕ × ℕ)) → Lawful r → Lawful (with_assumed r ps)
assumed_lawful r ps l = record {
  count_at_most_8192 = l.count_at_most_8192;
  width_at_most_1024 = omega (arith, l.width_at_most_1024);
  live_below_count = l.live_below_count;
  dead_holds_nothing = λ g k h.
      let n = l.dead_holds_nothing g k h in
      let d = granted_dead r.live g (slice_get ps (k - r.width)) h in
      grind arith;
  nothing_from_width_on = λ g k h. grind (arith, nat_tests);
  slot_leads_to_live = λ g k q u e.
      let own = l.slot_leads_to_live g k q u in
      let assumed : granted r.live g (slice_get ps (k - r.width)) ≡ Some (q, u) → r.live q ≡ true = λ n. (granted_is r.live g (slice_get ps (k - r.width)) (q, u) n).5 in
      grind arith;
  place_at_most_255 = l.place_at_most_255;
  place_0_from_count_on = l.place_0_from_count_on;
}

pub barred_lawful : (r : Rules) (bs : List ℕ) → Lawful r → Lawful (with_barred r bs)
barred_lawful r bs l = record {
  count_at_most_8192 = l.count_at_most_8192;
  width_at_most_1024 = l.width_at_most_1024;
  live_below_count = l.live_below_count;
  dead_holds_nothing = λ g k h. let n = l.dead_holds_nothing g k h in grind arith;
  nothing_from_width_on = λ g k h. let n = l.nothing_from_width_on g k h in grind arith;
  slot_leads_to_live = λ g k q u e.
      let own = l.slot_leads_to_live g k q u in
      let unbarred : unless_barred bs (r.slot g k) ≡ Some (q, u) → r.slot g k ≡ Some (q, u) = λ n. (unless_is bs (r.slot g k) (q, u) n).0 in
      grind arith;
  place_at_most_255 = l.place_at_most_255;
  place_0_from_count_on = l.place_0_from_count_on;
}
