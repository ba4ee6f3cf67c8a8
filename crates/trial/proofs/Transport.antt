-- An answer over the source under the lists is an answer by the ledger.
use Rattle.std.proofs.Common.{◌≡◌, ℕ, Bool, List, [], ◌∷◌, Ok, Err, Result, sym, refl, ap, ◌∙◌}
use Rattle.rules.specs.Rules.{Rules, Lawful}
use Rattle.rules.specs.Chains.{Grants, GrantsFirst, LeadsBy, AllLive, ChainBy, crosses, weight_from, weight_of}
use Rattle.rules.specs.declared.weights.Label.{Label}
use Rattle.search.specs.declared.answer.Found.{Found}
use Rattle.search.specs.declared.answer.Refusal.{Refusal}
use Rattle.search.specs.Questions.{HeldIn, Ruled, LeastPlan, PlannedOrLeft, Asked}
use Rattle.trial.specs.Ledger.{Ledger, LedgerGrants, LedgerRule}
use Rattle.trial.specs.Tables.{Tables, Stands, with_tables}
use Rattle.trial.proofs.Steps.{step-to, step_from, rule-to}

module _ (R : Rules) (law : Lawful R) (T : Tables) (l : Ledger) (st : Stands R T l) where
  leads-to : (p t : ℕ) (qs : List ℕ) → LeadsBy (Grants (with_tables R T)) p qs t → LeadsBy (LedgerGrants R l) p qs t
  leads-to p t [] h = h
  leads-to p t (q ∷ qs) h = ((h.0.0, step-to R law T l st p q h.0.0 h.0.1), leads-to q t qs h.1)

  leads-from : (p t : ℕ) (qs : List ℕ) → LeadsBy (LedgerGrants R l) p qs t → LeadsBy (Grants (with_tables R T)) p qs t
  leads-from p t [] h = h
  leads-from p t (q ∷ qs) h = ((h.0.0, step_from R law T l st p q h.0.0 h.0.1), leads-from q t qs h.1)

  live_to : (ps : List ℕ) → AllLive (with_tables R T) ps → AllLive R ps
  live_to [] h = h
  live_to (p ∷ ps) h = (h.0, live_to ps h.1)

  live-from : (ps : List ℕ) → AllLive R ps → AllLive (with_tables R T) ps
  live-from [] h = h
  live-from (p ∷ ps) h = (h.0, live-from ps h.1)

  chain-to : (held : ℕ → Type 0) (t : ℕ) (ps : List ℕ) → ChainBy (with_tables R T) (Grants (with_tables R T)) held t ps → ChainBy R (LedgerGrants R l) held t ps
  chain-to held t [] h = h
  chain-to held t (p ∷ ps) h = (h.0, live_to (p ∷ ps) h.1, leads-to p t ps h.2)

  chain-from : (held : ℕ → Type 0) (t : ℕ) (ps : List ℕ) → ChainBy R (LedgerGrants R l) held t ps → ChainBy (with_tables R T) (Grants (with_tables R T)) held t ps
  chain-from held t [] h = h
  chain-from held t (p ∷ ps) h = (h.0, live-from (p ∷ ps) h.1, leads-from p t ps h.2)

  ruled-to : (p : ℕ) (qs us : List ℕ) → Ruled (GrantsFirst (with_tables R T)) p qs us → Ruled (LedgerRule R l) p qs us
  ruled-to p [] [] h = h
  ruled-to p [] (u ∷ us) h = h
  ruled-to p (q ∷ qs) [] h = h
  ruled-to p (q ∷ qs) (u ∷ us) h = (rule-to R law T l st p q u h.0, ruled-to q qs us h.1)

  module _ {W : Type 0} (z : W) (add : W → Bool → W) (at_most : W → W → Bool) where
    weigh-same : (p : ℕ) (qs : List ℕ) → weight_from z add (with_tables R T) p qs ≡ weight_from z add R p qs
    weigh-same p [] = refl
    weigh-same p (q ∷ qs) = ap (λ w. add w (crosses R p q)) (weigh-same q qs)

    weight-same : (ps : List ℕ) → weight_of z add (with_tables R T) ps ≡ weight_of z add R ps
    weight-same [] = refl
    weight-same (p ∷ ps) = weigh-same p ps

    plan-to : (held : ℕ → Type 0) (t first : ℕ) (rest beside : List ℕ) (f : Found W) →
        LeastPlan z add at_most (with_tables R T) (Grants (with_tables R T)) (GrantsFirst (with_tables R T)) held t first rest beside f → LeastPlan z add at_most R (LedgerGrants R l) (LedgerRule R l) held t first rest beside f
    plan-to held t first rest beside f h = record {
      plan_is_a_chain = chain-to held t (first ∷ rest) h.plan_is_a_chain;
      each_step_has_its_rule = ruled-to first rest beside h.each_step_has_its_rule;
      plan_is_least = λ ps c. ap (at_most f.weight) (sym (weight-same ps)) ∙ h.plan_is_least ps (chain-from held t ps c);
      weight_is_the_plans = h.weight_is_the_plans ∙ weight-same (first ∷ rest);
      steps_are_the_plans = h.steps_are_the_plans;
      no_privilege_twice = h.no_privilege_twice;
      none_but_the_first_held = h.none_but_the_first_held;
      shorter_than_the_count = h.shorter_than_the_count;
    }

    module _ (t : ℕ) (plan₀ plan rules₀ rules : List ℕ) where
      planned-to : (hs : List ℕ) (r : Result (Found W) Refusal) →
          PlannedOrLeft z add at_most (with_tables R T) (Grants (with_tables R T)) (GrantsFirst (with_tables R T)) hs t plan₀ plan rules₀ rules r → PlannedOrLeft z add at_most R (LedgerGrants R l) (LedgerRule R l) hs t plan₀ plan rules₀ rules r
      planned-to hs (Ok f) h =
          let p = h.2 in (
            h.0,
            h.1,
            record {
              first = p.first;
              rest = p.rest;
              beside = p.beside;
              is_a_least_plan = plan-to (HeldIn hs) t p.first p.rest p.beside f p.is_a_least_plan;
              written_held_end_first = p.written_held_end_first;
              rules_written_beside = p.rules_written_beside;
            },
          )
      planned-to hs (Err e) h = h

      module _ (hs ms₀ ms : List ℕ) (ls₀ ls : List (Label W)) where
        pub asked-to : (r : Result (Found W) Refusal) →
            Asked z add at_most (with_tables R T) (Grants (with_tables R T)) (GrantsFirst (with_tables R T)) hs t ms₀ ms ls₀ ls plan₀ plan rules₀ rules r → Asked z add at_most R (LedgerGrants R l) (LedgerRule R l) hs t ms₀ ms ls₀ ls plan₀ plan rules₀ rules r
        asked-to r h =
            let none = h.no_chain_exactly_when_none in
            record {
              short_memory_exactly_when_not_enough = h.short_memory_exactly_when_not_enough;
              bad_byte_exactly_when_neither_0_nor_1 = h.bad_byte_exactly_when_neither_0_nor_1;
              not_live_exactly_when_some_is_dead = h.not_live_exactly_when_some_is_dead;
              no_chain_exactly_when_none = (
                (λ e. let a = none.0 e in (a.0, a.1, a.2, λ ps c. a.3 ps (chain-from _ t ps c))),
                λ a. none.1 (a.0, a.1, a.2, λ ps c. a.3 ps (chain-to _ t ps c)),
              );
              planned_or_left = planned-to _ r h.planned_or_left;
              short_memory_alters_nothing = h.short_memory_alters_nothing;
              first_n_marks_end_zero = h.first_n_marks_end_zero;
              labels_keep_their_number = h.labels_keep_their_number;
              labels_past_n_stay = h.labels_past_n_stay;
            }
