-- The steps of a source under the lists of a trial are those of the ledger.
use Rattle.std.proofs.Common.{◌≡◌, ℕ, zero, suc, ◌+◌, ◌-◌, ◌<◌, ◌≤◌, Bool, true, false, ◌⊎◌, List, [], ◌∷◌, length, Some, None, Option, sym, ap, ◌∙◌, inl, inr, ⊎_elim, arith}
use Rattle.std.specs.List.{slice_get, list_any}
use Rattle.std.proofs.lemmas.Bool.{lt-ltb, cond-true, cond-false, cases_lt, eqb-true, and_parts, or_cases}
use Rattle.std.proofs.lemmas.Bool.Decides.{nat_tests}
use Rattle.std.proofs.lemmas.Option.{none-some}
use Rattle.rules.specs.Rules.{Rules, Lawful}
use Rattle.rules.specs.Chains.{Grants, GrantsFirst}
use Rattle.layers.specs.Layers.{granted, is_pair, member, unless_barred, with_assumed}
use Rattle.layers.specs.Layered.{unless_is, granted_is}
use Rattle.trial.specs.Ledger.{Ledger, LedgerGrants, LedgerRule}
use Rattle.trial.specs.Tables.{Tables, alive, Stands, with_tables}

-- a pair that is in the list stands at some place
pub placed : (p g : ℕ) (ps : List (ℕ × ℕ)) → list_any (is_pair p g) ps ≡ true → (j : ℕ) × (j < length ps) × (slice_get ps j ≡ Some (p, g))
placed p g [] h = cc
placed p g (x ∷ ps) h =
    ⊎_elim
    (λ e. let b = and_parts _ _ e in (0, omega arith, ap Some (pair_is x p g (eqb-true _ _ b.0) (eqb-true _ _ b.1))))
    (λ e. let (j, lt, at) = placed p g ps e in (suc j, omega arith, at))
    (or_cases _ _ h) where
      pair_is : (x : ℕ × ℕ) (p g : ℕ) → x.0 ≡ p → x.1 ≡ g → x ≡ (p, g)
      pair_is x p g a b = ap (λ v. (v, x.1)) a ∙ ap (λ v. (p, v)) b

-- and the other way
pub found : (p g : ℕ) (ps : List (ℕ × ℕ)) (j : ℕ) (x : ℕ × ℕ) → slice_get ps j ≡ Some x → x.0 ≡ p → x.1 ≡ g → list_any (is_pair p g) ps ≡ true
found p g [] j x e a b = grind (arith, nat_tests)
found p g (y ∷ ps) zero x e a b = grind (arith, nat_tests)
found p g (y ∷ ps) (suc j) x e a b = let h = found p g ps j x e a b in grind (arith, nat_tests)

-- both ends of a pair in the list are live
pub alive-some : (live : ℕ → Bool) (p g : ℕ) (ps : List (ℕ × ℕ)) → alive live ps ≡ true → list_any (is_pair p g) ps ≡ true → (live p ≡ true) × (live g ≡ true)
alive-some live p g [] a h = cc
alive-some live p g (x ∷ ps) a h = let r = alive-some live p g ps in (grind (arith, nat_tests), grind (arith, nat_tests))

unless_from : (bs : List ℕ) (o : Option (ℕ × ℕ)) (x : ℕ × ℕ) → o ≡ Some x → member x.0 bs ≡ false → unless_barred bs o ≡ Some x
unless_from bs o x e f = grind arith

module _ (r : Rules) (law : Lawful r) (T : Tables) (l : Ledger) (st : Stands r T l) where
  -- what stands in a slot under the assumptions: the source's own entry or, past its width, an assumed pair
  assumed-to : (p g u k : ℕ) → (with_assumed r T.assumed).slot g k ≡ Some (p, u) → (r.slot g k ≡ Some (p, u)) ⊎ ((r.width ≤ k) × (u ≡ 200) × (list_any (is_pair p g) T.assumed ≡ true))
  assumed-to p g u k e =
      ⊎_elim
      (λ lt. inl (grind (arith, nat_tests)))
      (λ le.
      let n : granted r.live g (slice_get T.assumed (k - r.width)) ≡ Some (p, u) = grind (arith, nat_tests) in
      let y = granted_is r.live g (slice_get T.assumed (k - r.width)) (p, u) n in
      inr (le, y.4, found p g T.assumed (k - r.width) y.0 y.1 y.2 y.3))
      (cases_lt k r.width)

  -- what stands in a slot under the bars too: neither end is barred
  barred-to : (p g u k : ℕ) → (with_tables r T).slot g k ≡ Some (p, u) → (member g T.barred ≡ false) × (member p T.barred ≡ false) × ((with_assumed r T.assumed).slot g k ≡ Some (p, u))
  barred-to p g u k e =
      let s : unless_barred T.barred ((with_assumed r T.assumed).slot g k) ≡ Some (p, u) = grind arith in
      let n = unless_is T.barred ((with_assumed r T.assumed).slot g k) (p, u) s in
      (grind arith, n.1, n.0)

  pub step-to : (p g u : ℕ) → Grants (with_tables r T) p g u → LedgerGrants r l p g u
  step-to p g u (k, e) =
      let n = barred-to p g u k e in
      (st.bars.same_members p ∙ n.1, st.bars.same_members g ∙ n.0, ⊎_elim (λ a. inl (k, a)) (λ a. inr (a.1, st.pairs.same_members (p, g) ∙ a.2)) (assumed-to p g u k n.2))

  assumed-from : (p g u : ℕ) → Grants r p g u ⊎ ((u ≡ 200) × (list_any (is_pair p g) T.assumed ≡ true)) → Grants (with_assumed r T.assumed) p g u
  assumed-from p g u s =
      ⊎_elim
      (λ h.
      let lt : h.0 < r.width = ⊎_elim (λ a. a) (λ a. absurd (none-some (p, u) (sym (law.nothing_from_width_on g h.0 a) ∙ h.1))) (cases_lt h.0 r.width) in
      (h.0, cond-true _ (r.slot g h.0) _ (lt-ltb _ _ lt) ∙ h.1))
      (λ h.
      let n = placed p g T.assumed h.1 in
      let few = st.within_room in
      let two = alive-some r.live p g T.assumed st.all_live h.1 in
      let d : r.width + n.0 - r.width ≡ n.0 = omega arith in
      let at : slice_get T.assumed (r.width + n.0 - r.width) ≡ Some (p, g) = ap (slice_get T.assumed) d ∙ n.2 in
      (r.width + n.0, grind (arith, nat_tests)))
      s

  pub step_from : (p g u : ℕ) → LedgerGrants r l p g u → Grants (with_tables r T) p g u
  step_from p g u (np, ng, s) =
      let h = assumed-from p g u (⊎_elim inl (λ a. inr (a.0, sym (st.pairs.same_members (p, g)) ∙ a.1)) s) in
      (h.0, cond-false _ None _ (sym (st.bars.same_members g) ∙ ng) ∙ unless_from T.barred ((with_assumed r T.assumed).slot g h.0) (p, u) h.1 (sym (st.bars.same_members p) ∙ np))

  -- what a slot of the source holds shows in the same slot under the lists, unless it is barred
  shows : (p g j e : ℕ) → member g T.barred ≡ false → member p T.barred ≡ false → r.slot g j ≡ Some (p, e) → (j < r.width) × ((with_tables r T).slot g j ≡ Some (p, e))
  shows p g j e ng np s =
      let lt : j < r.width = ⊎_elim (λ a. a) (λ a. absurd (none-some (p, e) (sym (law.nothing_from_width_on g j a) ∙ s))) (cases_lt j r.width) in
      (lt, cond-false _ None _ ng ∙ unless_from T.barred ((with_assumed r T.assumed).slot g j) (p, e) (cond-true _ (r.slot g j) _ (lt-ltb _ _ lt) ∙ s) np)

  -- the rule of the lowest slot under the lists is the one that the ledger tells
  pub rule-to : (p g u : ℕ) → GrantsFirst (with_tables r T) p g u → LedgerRule r l p g u
  rule-to p g u (k, e, low) =
      let n = barred-to p g u k e in (
        st.bars.same_members p ∙ n.1,
        st.bars.same_members g ∙ n.0,
        ⊎_elim
            (λ a. inl (k, a, λ j i lt s. low j i lt (shows p g j i n.0 n.1 s).1))
            (λ a. inr (a.1, st.pairs.same_members (p, g) ∙ a.2, λ i s. let shown = shows p g s.0 i n.0 n.1 s.1 in low s.0 i (omega (arith, shown.0)) shown.1))
            (assumed-to p g u k n.2),
      )
