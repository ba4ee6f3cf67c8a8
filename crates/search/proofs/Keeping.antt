-- Each step of the search keeps what it should.
use Rattle.std.proofs.Common.{◌≡◌, ℕ, zero, suc, ◌<◌, ◌≤◌, Bool, true, false, cond, not, ◌&&◌, eqb, ◌⊎◌, List, [], ◌∷◌, length, set, replicate, Some, None, Option, sym, refl, ap, ◌∙◌, subst, inl, inr, arith, length-set, get_or-set_other, get_or-set_same}
use Rattle.std.proofs.lemmas.List.{length-replicate}
use Rattle.std.proofs.lemmas.Option.{none-some}
use Rattle.std.proofs.lemmas.Bool.{cases_eq, cases_lt, both_ways, eqb-true, eqb-false, or_cases, or_parts, and_parts, and_cases, not-true, not-false}
use Rattle.rules.specs.Rules.{Rules, Lawful}
use Rattle.rules.specs.Measures.{Measures}
use Rattle.rules.specs.Chains.{crosses, GrantsFirst, LeadsBy, weight_from, ChainBy, AllLive, Grants, weight_of}
use Rattle.rules.specs.declared.weights.Label.{Label}
use Rattle.search.specs.Labels.{mark, label, State, blank, begun, better, improved, at_slot, relaxed}
use Rattle.search.specs.Trails.{settled, Traced, Trail, Spread, Kept, All, Before}
use Rattle.search.specs.Questions.{Apart}
use Rattle.search.proofs.Counting.{within, settled-set}

abbrev giver : Option (ℕ × ℕ) → ℕ
giver None = 0
giver (Some e) = e.0

zero-at : (n x : ℕ) → mark (replicate n 0) x ≡ 0
zero-at zero x = refl
zero-at (suc n) zero = refl
zero-at (suc n) (suc x) = zero-at n x

pub at_most-self : {W : Type 0} {z : W} {add : W → Bool → W} {at_most : W → W → Bool} → Measures z add at_most → (x : W) → at_most x x ≡ true
at_most-self laws x = elim (laws.total x x) [ inl h ↦ h | inr h ↦ h ]

module _ {W : Type 0} {z : W} {add : W → Bool → W} {at_most : W → W → Bool} (laws : Measures z add at_most) (R : Rules) (lawful : Lawful R) (t : ℕ) where
  -- what is settled in s is so in s', with the same label
  abbrev Grown : State W → State W → Type 0
  Grown s s' = (x : ℕ) → mark s.0 x ≡ 2 → (mark s'.0 x ≡ 2) × (label z s'.1 x ≡ label z s.1 x)

  traced-on : (s s' : State W) → Grown s s' → (p : ℕ) (qs : List ℕ) → label z s'.1 p ≡ label z s.1 p → Traced z add R t s p qs → Traced z add R t s' p qs
  traced-on s s' grown p [] same h = (h.0, ap (λ l. l.weight) same ∙ h.1)
  traced-on s s' grown p (q ∷ qs) same h =
      let g = grown q h.0.done in (
        record {
          done = g.0;
          next = ap (λ l. l.next) same ∙ h.0.next;
          first = subst (λ (l : Label W). GrantsFirst R p q l.rule) (sym same) h.0.first;
          weight = ap (λ l. l.weight) same ∙ h.0.weight ∙ ap (λ l. add l.weight (crosses R p q)) (sym g.1);
        },
        h.1,
        traced-on s s' grown q qs g.1 h.2,
      )

  -- what is not settled is not in a trail
  fresh-from : (s : State W) (p q : ℕ) (qs : List ℕ) → (mark s.0 p ≡ 2 → ⊥) → Traced z add R t s q qs → Apart p qs
  fresh-from s p q [] nt h = tt
  fresh-from s p q (x ∷ xs) nt h = ((λ e. nt (ap (mark s.0) e ∙ h.0.done)), fresh-from s p x xs nt h.2)

  -- a trail ends at the target
  pub ends : (s : State W) (p : ℕ) (qs : List ℕ) → Traced z add R t s p qs → Apart t (p ∷ qs) → ⊥
  ends s p [] h f = f.0 (sym h.0)
  ends s p (q ∷ qs) h f = ends s q qs h.2 f.1

  pub traced-weighs : (s : State W) (p : ℕ) (qs : List ℕ) → Traced z add R t s p qs → (label z s.1 p).weight ≡ weight_from z add R p qs
  traced-weighs s p [] h = h.1
  traced-weighs s p (q ∷ qs) h = h.0.weight ∙ ap (λ w. add w (crosses R p q)) (traced-weighs s q qs h.2)

  pub traced-leads : (s : State W) (p : ℕ) (qs : List ℕ) → Traced z add R t s p qs → LeadsBy (Grants R) p qs t
  traced-leads s p [] h = h.0
  traced-leads s p (q ∷ qs) h = ((_, (h.0.first.0, h.0.first.1)), traced-leads s q qs h.2)

  pub leads-live : (p : ℕ) (qs : List ℕ) → R.live t ≡ true → LeadsBy (Grants R) p qs t → AllLive R (p ∷ qs)
  leads-live p [] h e = (ap R.live e ∙ h, tt)
  leads-live p (q ∷ qs) h e = (lawful.slot_leads_to_live q e.0.1.0 p e.0.0 e.0.1.1, leads-live q qs h e.1)

  module _ (held : ℕ → Type 0) (old : List (Label W)) where
    module _ (s : State W) (kept : Kept z add at_most R held t old All s) where
      target-zero : mark s.0 t ≡ 1 → (label z s.1 t).weight ≡ z
      target-zero m = go trail.rest trail.traced
        where
          trail : Trail z add R t s t
          trail = kept.trails t kept.begun

          go : (qs : List ℕ) → Traced z add R t s t qs → (label z s.1 t).weight ≡ z
          go [] h = h.1
          go (q ∷ qs) h = absurd (ends s q qs h.2 h.1)

      -- the cut: a way to the target from what is not settled passes a label that weighs no more
      pub cut : (p : ℕ) (qs : List ℕ) → (mark s.0 p ≡ 2 → ⊥) → LeadsBy (Grants R) p qs t → (u : ℕ) × (mark s.0 u ≡ 1) × (at_most (label z s.1 u).weight (weight_from z add R p qs) ≡ true)
      cut p [] nt e =
          let one : mark s.0 t ≡ 1 = omega (arith, kept.begun, kept.kinds t, λ (h : mark s.0 t ≡ 2). nt (ap (mark s.0) e ∙ h)) in
          (t, one, rw (target-zero one) (at_most-self laws z))
      cut p (q ∷ qs) nt e = elim (cases_eq (mark s.0 q) 2) [
        | inl m ↦ elim (kept.spread q e.0.1.0 p e.0.0 tt m e.0.1.1) [
          | inl two ↦ absurd (nt two)
          | inr h ↦ (p, h.0, laws.transitive _ _ _ h.1 (laws.adding_keeps_the_order _ _ (crosses R p q) (kept.least q m qs e.1)))
        ]
        | inr ne ↦ let (u, one, h) = cut q qs ne e.1 in (u, one, laws.transitive _ _ _ h (laws.adding_never_lowers _ (crosses R p q)))
      ]

      -- the least label is settled
      module _ (q : ℕ) (one : mark s.0 q ≡ 1) (lowest : (p : ℕ) → mark s.0 p ≡ 1 → at_most (label z s.1 q).weight (label z s.1 p).weight ≡ true) where
        unsettled : mark s.0 q ≡ 2 → ⊥
        unsettled h = omega arith

        q-within : q < length s.0
        q-within = within s.0 q (omega arith)

        pub lowest-least : (qs : List ℕ) → LeadsBy (Grants R) q qs t → at_most (label z s.1 q).weight (weight_from z add R q qs) ≡ true
        lowest-least qs e = let (u, m, h) = cut q qs unsettled e in laws.transitive _ _ _ (lowest u m) h

        abbrev after : State W
        after = (set s.0 q 2, s.1)

        at-q : mark after.0 q ≡ 2
        at-q = get_or-set_same s.0 q 2 0 q-within

        off-q : (x : ℕ) → (x ≡ q → ⊥) → mark after.0 x ≡ mark s.0 x
        off-q x ne = get_or-set_other s.0 q x 2 0 ne

        settle-grown : Grown s after
        settle-grown x m = (off-q x (λ e. omega (arith, ap (mark s.0) e)) ∙ m, refl)

        was-marked : (x : ℕ) → 0 < mark after.0 x → 0 < mark s.0 x
        was-marked x h = elim (cases_eq x q) [
          | inl e ↦ omega (arith, ap (mark s.0) e)
          | inr ne ↦ omega (arith, off-q x ne)
        ]

        one_more : settled after.0 ≡ suc (settled s.0)
        one_more = settled-set s.0 q 2 q-within unsettled ∙ omega arith

        pub settle : (held q → ⊥) → Kept z add at_most R held t old (Before q 0) after
        settle free = record {
          many = length-set s.0 q 2 ∙ kept.many;
          room = kept.room;
          past = kept.past;
          kinds = λ x. elim (cases_eq x q) [
            | inl e ↦ omega (arith, ap (mark after.0) e, at-q)
            | inr ne ↦ omega (arith, off-q x ne, kept.kinds x)
          ];
          begun = elim (cases_eq t q) [
            | inl e ↦ omega (arith, ap (mark after.0) e, at-q)
            | inr ne ↦ omega (arith, off-q t ne, kept.begun)
          ];
          trails = λ x h.
              let trail = kept.trails x (was-marked x h) in
              record {
                rest = trail.rest;
                traced = traced-on s after settle-grown x trail.rest refl trail.traced;
                short = omega (arith, trail.short, one_more);
                shorter = λ _. omega (arith, trail.short, one_more);
              };
          spread = λ x k p r seen m slot. elim (cases_eq x q) [
            | inl e ↦ absurd (omega (arith, seen e))
            | inr ne ↦ elim (kept.spread x k p r tt (sym (off-q x ne) ∙ m) slot) [
              | inl two ↦ inl (settle-grown p two).0
              | inr h ↦ elim (cases_eq p q) [
                | inl e ↦ inl (ap (mark after.0) e ∙ at-q)
                | inr pe ↦ inr (off-q p pe ∙ h.0, h.1)
              ]
            ]
          ];
          least = λ x m qs lead. elim (cases_eq x q) [
            | inl e ↦ rw e (lowest-least qs (subst (λ (y : ℕ). LeadsBy (Grants R) y qs t) e lead))
            | inr ne ↦ kept.least x (sym (off-q x ne) ∙ m) qs lead
          ];
          unheld = λ x m h. elim (cases_eq x q) [
            | inl e ↦ free (subst held e h)
            | inr ne ↦ kept.unheld x (sym (off-q x ne) ∙ m) h
          ];
        }

    -- the same with other slots seen
    respread : {Seen Seen' : ℕ → ℕ → Type 0} {s : State W} → Kept z add at_most R held t old Seen s → Spread z add at_most R Seen' s → Kept z add at_most R held t old Seen' s
    respread kept spread = record { many = kept.many; room = kept.room; past = kept.past; kinds = kept.kinds; begun = kept.begun; trails = kept.trails; spread = spread; least = kept.least; unheld = kept.unheld }

    -- one slot of a settled privilege
    module _ (q k : ℕ) (base : W) (s : State W) (kept : Kept z add at_most R held t old (Before q k) s) (mq : mark s.0 q ≡ 2) (isBase : base ≡ (label z s.1 q).weight) where
      -- an empty slot
      pub pass-empty : R.slot q k ≡ None → Kept z add at_most R held t old (Before q (suc k)) s
      pass-empty none = respread kept (λ x j y e seen m slot. elim (cases_eq j k) [
        | inl eq ↦ elim (cases_eq x q) [
          | inl at ↦ absurd (none-some _ (sym none ∙ ap (λ i. R.slot i k) (sym at) ∙ ap (R.slot x) (sym eq) ∙ slot))
          | inr off ↦ kept.spread x j y e (λ at. absurd (off at)) m slot
        ]
        | inr ne ↦ kept.spread x j y e (λ at. omega (arith, seen at)) m slot
      ])

      module _ (p r : ℕ) (slot : R.slot q k ≡ Some (p, r)) where
        abbrev cand : Label W
        cand = record { weight = add base (crosses R p q); next = q; rule = r }

        -- what stands in slot k is p
        at-k : (x j y e : ℕ) → x ≡ q → j ≡ k → R.slot x j ≡ Some (y, e) → y ≡ p
        at-k x j y e at eq h = ap giver (sym h ∙ ap (λ i. R.slot i j) at ∙ ap (R.slot q) eq ∙ slot)

        seen-before : (x j : ℕ) → Before q (suc k) x j → (Before q k x j) ⊎ ((x ≡ q) × (j ≡ k))
        seen-before x j seen = elim (cases_eq x q) [
          | inl at ↦ elim (cases_eq j k) [
            | inl eq ↦ inr (at, eq)
            | inr ne ↦ inl (λ _. omega (arith, seen at))
          ]
          | inr off ↦ inl (λ at. absurd (off at))
        ]

        -- no better label
        pub pass-worse : ((mark s.0 p ≡ 2) ⊎ ((mark s.0 p ≡ 1) × (at_most (label z s.1 p).weight cand.weight ≡ true))) → Kept z add at_most R held t old (Before q (suc k)) s
        pass-worse worse = respread kept (λ x j y e seen m h. elim (seen-before x j seen) [
          | inl early ↦ kept.spread x j y e early m h
          | inr now ↦
              let y≡p : y ≡ p = at-k x j y e now.0 now.1 h in
              elim worse [
                | inl two ↦ inl (ap (mark s.0) y≡p ∙ two)
                | inr one ↦ inr (ap (mark s.0) y≡p ∙ one.0, rw (y≡p, now.0, ← isBase) one.1)
              ]
        ])

        -- a better label
        module _ (good : (mark s.0 p ≡ 0) ⊎ ((mark s.0 p ≡ 1) × (at_most (label z s.1 p).weight cand.weight ≡ false))) where
          unset : mark s.0 p ≡ 2 → ⊥
          unset h = elim good [ inl e ↦ omega arith | inr e ↦ omega (arith, e.0) ]

          p-live : p < R.count
          p-live = lawful.live_below_count p (lawful.slot_leads_to_live q k p r slot)

          p≢q : p ≡ q → ⊥
          p≢q e = unset (ap (mark s.0) e ∙ mq)

          abbrev next : State W
          next = (set s.0 p 1, set s.1 p cand)

          at_p : mark next.0 p ≡ 1
          at_p = get_or-set_same s.0 p 1 0 (omega (arith, p-live, kept.many))

          off-p : (x : ℕ) → (x ≡ p → ⊥) → mark next.0 x ≡ mark s.0 x
          off-p x ne = get_or-set_other s.0 p x 1 0 ne

          label-p : label z next.1 p ≡ cand
          label-p = get_or-set_same s.1 p cand (blank z) (omega (arith, p-live, kept.room))

          label-off : (x : ℕ) → (x ≡ p → ⊥) → label z next.1 x ≡ label z s.1 x
          label-off x ne = get_or-set_other s.1 p x cand (blank z) ne

          improve-grown : Grown s next
          improve-grown x m = let ne : x ≡ p → ⊥ = λ e. unset (sym (ap (mark s.0) e) ∙ m) in (off-p x ne ∙ m, label-off x ne)

          -- what is settled after was so before, and is not p
          was_settled : (x : ℕ) → mark next.0 x ≡ 2 → (x ≡ p → ⊥) × (mark s.0 x ≡ 2)
          was_settled x m =
              let ne : x ≡ p → ⊥ = λ e. omega (arith, ap (mark next.0) e, at_p, m) in
              (ne, sym (off-p x ne) ∙ m)

          same_count : settled next.0 ≡ settled s.0
          same_count = settled-set s.0 p 1 (omega (arith, p-live, kept.many)) unset ∙ omega arith

          -- the new label weighs no more than the old one, if there was one
          down : mark s.0 p ≡ 1 → at_most cand.weight (label z s.1 p).weight ≡ true
          down m = elim good [
            | inl e ↦ absurd (omega arith)
            | inr e ↦ elim (laws.total cand.weight (label z s.1 p).weight) [
              | inl h ↦ h
              | inr h ↦ absurd (both_ways _ e.1 h)
            ]
          ]

          -- no slot of q below k holds p
          lowest-slot : (j e : ℕ) → j < k → R.slot q j ≡ Some (p, e) → ⊥
          lowest-slot j e lt h = elim (kept.spread q j p e (λ _. lt) mq h) [
            | inl two ↦ unset two
            | inr one ↦ elim good [
              | inl none ↦ omega (arith, one.0)
              | inr more ↦ both_ways _ more.1 (subst (λ (w : W). at_most (label z s.1 p).weight (add w (crosses R p q)) ≡ true) (sym isBase) one.1)
            ]
          ]

          trail-p : Trail z add R t next p
          trail-p =
              let back = kept.trails q (omega (arith, mq)) in
              let g = improve-grown q mq in
              record {
                rest = q ∷ back.rest;
                traced = (
                  record {
                    done = g.0;
                    next = ap (λ l. l.next) label-p;
                    first = subst (λ (l : Label W). GrantsFirst R p q l.rule) (sym label-p) (k, slot, lowest-slot);
                    weight = ap (λ l. l.weight) label-p ∙ ap (λ w. add w (crosses R p q)) isBase ∙ ap (λ l. add l.weight (crosses R p q)) (sym g.1);
                  },
                  (p≢q, fresh-from s p q back.rest unset back.traced),
                  traced-on s next improve-grown q back.rest g.1 back.traced,
                );
                short = omega (arith, back.shorter mq, same_count);
                shorter = λ m. absurd (omega (arith, at_p, m));
              }

          pub improve-keeps : Kept z add at_most R held t old (Before q (suc k)) next
          improve-keeps = record {
            many = length-set s.0 p 1 ∙ kept.many;
            room = omega (arith, length-set s.1 p cand, kept.room);
            past = λ i d le. get_or-set_other s.1 p i cand d (λ e. omega (arith, p-live)) ∙ kept.past i d le;
            kinds = λ x. elim (cases_eq x p) [
              | inl e ↦ omega (arith, ap (mark next.0) e, at_p)
              | inr ne ↦ omega (arith, off-p x ne, kept.kinds x)
            ];
            begun = elim (cases_eq t p) [
              | inl e ↦ omega (arith, ap (mark next.0) e, at_p)
              | inr ne ↦ omega (arith, off-p t ne, kept.begun)
            ];
            trails = λ x h. elim (cases_eq x p) [
              | inl e ↦ subst (λ (y : ℕ). Trail z add R t next y) (sym e) trail-p
              | inr ne ↦
                  let trail = kept.trails x (omega (arith, off-p x ne)) in
                  record {
                    rest = trail.rest;
                    traced = traced-on s next improve-grown x trail.rest (label-off x ne) trail.traced;
                    short = omega (arith, trail.short, same_count);
                    shorter = λ m. omega (arith, trail.shorter (sym (off-p x ne) ∙ m), same_count);
                  }
            ];
            spread = λ x j y e seen m h.
                let was = was_settled x m in
                let lx = label-off x was.0 in
                elim (cases_eq y p) [
                  | inl y≡p ↦ inr (
                    ap (mark next.0) y≡p ∙ at_p,
                    rw (y≡p, label-p, lx) (elim (seen-before x j seen) [
                      | inl early ↦ elim (kept.spread x j p e early was.1 (rw (← y≡p) h)) [
                        | inl two ↦ absurd (unset two)
                        | inr one ↦ laws.transitive _ _ _ (down one.0) one.1
                      ]
                      | inr now ↦ rw (now.0, ← isBase) (at_most-self laws _)
                    ]),
                  )
                  | inr ne ↦ elim (seen-before x j seen) [
                    | inl early ↦ elim (kept.spread x j y e early was.1 h) [
                      | inl two ↦ inl (off-p y ne ∙ two)
                      | inr one ↦ inr (off-p y ne ∙ one.0, rw (label-off y ne, lx) one.1)
                    ]
                    | inr now ↦ absurd (ne (at-k x j y e now.0 now.1 h))
                  ]
                ];
            least = λ x m qs lead. let was = was_settled x m in rw (label-off x was.0) (kept.least x was.1 qs lead);
            unheld = λ x m h. kept.unheld x (was_settled x m).1 h;
          }

        -- either way
        pub improved-keeps : Kept z add at_most R held t old (Before q (suc k)) (improved z at_most s p cand) × Grown s (improved z at_most s p cand) × (settled (improved z at_most s p cand).0 ≡ settled s.0)
        improved-keeps = go (better z at_most s.0 s.1 p cand) refl
          where
            good : better z at_most s.0 s.1 p cand ≡ true → (mark s.0 p ≡ 0) ⊎ ((mark s.0 p ≡ 1) × (at_most (label z s.1 p).weight cand.weight ≡ false))
            good e = elim (or_cases _ _ e) [
              | inl h ↦ inl (eqb-true _ _ h)
              | inr h ↦ let (a, b) = and_parts _ _ h in inr (eqb-true _ _ a, not-true _ b)
            ]

            worse : better z at_most s.0 s.1 p cand ≡ false → (mark s.0 p ≡ 2) ⊎ ((mark s.0 p ≡ 1) × (at_most (label z s.1 p).weight cand.weight ≡ true))
            worse e =
                let (a, b) = or_parts (eqb (mark s.0 p) 0) (eqb (mark s.0 p) 1 && not (at_most (label z s.1 p).weight cand.weight)) e in
                elim (and_cases (eqb (mark s.0 p) 1) (not (at_most (label z s.1 p).weight cand.weight)) b) [
                  | inl h ↦ inl (omega (arith, kept.kinds p, eqb-false (mark s.0 p) 0 a, eqb-false (mark s.0 p) 1 h))
                  | inr h ↦ elim (cases_eq (mark s.0 p) 1) [
                    | inl one ↦ inr (one, not-false _ h)
                    | inr ne ↦ inl (omega (arith, kept.kinds p, eqb-false (mark s.0 p) 0 a))
                  ]
                ]

            go : (b : Bool) → better z at_most s.0 s.1 p cand ≡ b →
                let s' : State W = cond b (set s.0 p 1, set s.1 p cand) s in
                Kept z add at_most R held t old (Before q (suc k)) s' × Grown s s' × (settled s'.0 ≡ settled s.0)
            go true e = (improve-keeps (good e), improve-grown (good e), same_count (good e))
            go false e = (pass-worse (worse e), (λ x m. (m, refl)), refl)

    -- all slots of a settled privilege
    module _ (q : ℕ) (base : W) (c : ℕ) where
      abbrev Ready : ℕ → State W → Type 0
      Ready k s = Kept z add at_most R held t old (Before q k) s × (mark s.0 q ≡ 2) × (base ≡ (label z s.1 q).weight) × (settled s.0 ≡ c)

      one-slot : (k : ℕ) (s : State W) (o : Option (ℕ × ℕ)) → R.slot q k ≡ o → Ready k s → Ready (suc k) (at_slot z add at_most R q base o s)
      one-slot k s None e h = (pass-empty q k base s h.0 h.1 h.2 e, h.1, h.2, h.3)
      one-slot k s (Some y) e h =
          let i = improved-keeps q k base s h.0 h.1 h.2 y.0 y.1 e in
          let g = i.1 q h.1 in
          (i.0, g.0, h.2 ∙ ap (λ l. l.weight) (sym g.1), i.2 ∙ h.3)

      pub relaxed-keeps : (k : ℕ) (s : State W) → Ready 0 s → Ready k (relaxed z add at_most R q base k s)
      relaxed-keeps zero s h = h
      relaxed-keeps (suc k) s h = one-slot k (relaxed z add at_most R q base k s) (R.slot q k) refl (relaxed-keeps k s h)

    -- no slot is left
    all_seen : (q : ℕ) (s : State W) → Kept z add at_most R held t old (Before q R.width) s → Kept z add at_most R held t old All s
    all_seen q s kept = respread kept (λ x j y e _ m slot. kept.spread x j y e (λ _. elim (cases_lt j R.width) [
      | inl lt ↦ lt
      | inr le ↦ absurd (none-some _ (sym (lawful.nothing_from_width_on x j le) ∙ slot))
    ]) m slot)

    -- a whole turn
    pub turn-keeps : (s : State W) → Kept z add at_most R held t old All s → (q : ℕ) → mark s.0 q ≡ 1 →
        ((p : ℕ) → mark s.0 p ≡ 1 → at_most (label z s.1 q).weight (label z s.1 p).weight ≡ true) → (held q → ⊥) →
        let s' : State W = relaxed z add at_most R q (label z s.1 q).weight R.width (set s.0 q 2, s.1) in
        Kept z add at_most R held t old All s' × (settled s'.0 ≡ suc (settled s.0))
    turn-keeps s kept q one lowest free =
        let ready = relaxed-keeps q (label z s.1 q).weight (suc (settled s.0)) R.width (set s.0 q 2, s.1)
        (settle s kept q one lowest free, at-q s kept q one lowest, refl, one_more s kept q one lowest) in
        (all_seen q _ ready.0, ready.3)

    -- the end without a label that is not settled
    pub no-chain : (s : State W) → Kept z add at_most R held t old All s → ((p : ℕ) → mark s.0 p ≡ 1 → ⊥) → (ps : List ℕ) → ChainBy R (Grants R) held t ps → ⊥
    no-chain s kept none [] h = h
    no-chain s kept none (p ∷ ps) h = let (u, one, _) = cut s kept p ps (λ m. kept.unheld p m h.0) h.2 in none u one

    -- the end at a held privilege
    pub least-chain : (s : State W) → Kept z add at_most R held t old All s → (q : ℕ) → mark s.0 q ≡ 1 →
        ((p : ℕ) → mark s.0 p ≡ 1 → at_most (label z s.1 q).weight (label z s.1 p).weight ≡ true) →
        (ps : List ℕ) → ChainBy R (Grants R) held t ps → at_most (label z s.1 q).weight (weight_of z add R ps) ≡ true
    least-chain s kept q one lowest [] h = absurd h
    least-chain s kept q one lowest (p ∷ ps) h =
        let (u, m, le) = cut s kept p ps (λ m. kept.unheld p m h.0) h.2 in
        laws.transitive _ _ _ (lowest u m) le

    -- the start
    pub start-keeps : (ms₀ : List ℕ) → length ms₀ ≡ R.count → R.count ≤ length old → t < R.count → Kept z add at_most R held t old All (begun z t (ms₀, old))
    start-keeps ms₀ many room lt = record {
      many = length-set _ t 1 ∙ length-replicate {A = ℕ} (length ms₀) 0 ∙ many;
      room = omega (arith, length-set old t first);
      past = λ k d le. get_or-set_other old t k first d (λ e. omega arith);
      kinds = λ x. elim (cases_eq x t) [ inl e ↦ omega (arith, ap (mark ms) e, at-t) | inr ne ↦ omega (arith, off-t x ne) ];
      begun = omega (arith, at-t);
      trails = λ x h. elim (cases_eq x t) [
        | inl e ↦ record { rest = []; traced = (e, ap (λ y. (label z ls y).weight) e ∙ ap (λ l. l.weight) (get_or-set_same old t first (blank z) (omega arith))); short = omega arith; shorter = λ m. absurd (omega (arith, ap (mark ms) e, at-t)) }
        | inr ne ↦ absurd (omega (arith, off-t x ne))
      ];
      spread = λ x j y e _ m _. absurd (not-two x m);
      least = λ x m. absurd (not-two x m);
      unheld = λ x m. absurd (not-two x m);
    }
      where
        first : Label W
        first = record { weight = z; next = t; rule = 0 }

        ms : List ℕ
        ms = set (replicate (length ms₀) 0) t 1

        ls : List (Label W)
        ls = set old t first

        at-t : mark ms t ≡ 1
        at-t = get_or-set_same (replicate (length ms₀) 0) t 1 0 (omega (arith, length-replicate {A = ℕ} (length ms₀) 0))

        off-t : (x : ℕ) → (x ≡ t → ⊥) → mark ms x ≡ 0
        off-t x ne = get_or-set_other (replicate (length ms₀) 0) t x 1 0 ne ∙ zero-at (length ms₀) x

        not-two : (x : ℕ) → mark ms x ≡ 2 → ⊥
        not-two x m = elim (cases_eq x t) [ inl e ↦ omega (arith, ap (mark ms) e, at-t) | inr ne ↦ omega (arith, off-t x ne) ]
