-- From the memory of a question to what a run replies.
use Rattle.std.proofs.Common.{◌≡◌, ℕ, suc, ◌+◌, ◌≤◌, Bool, List, [], ◌∷◌, length, take, Ok, Err, vec_items, Result, refl, ap, ◌∙◌, ⊎_elim, arith}
use Rattle.std.proofs.lemmas.Bool.{cases_lt}
use Rattle.rules.specs.Rules.{Rules}
use Rattle.rules.specs.declared.weights.Label.{Label}
use Rattle.search.specs.Lists.{overlay}
use Rattle.search.specs.Questions.{Ruled, Enough, Asked}
use Rattle.search.specs.Refusals.{refusal}
use Rattle.search.specs.declared.answer.Found.{Found}
use Rattle.search.specs.declared.answer.Refusal.{Refusal as Unanswered}
use Rattle.trial.specs.Ledger.{Ledger, LedgerGrants, LedgerRule}
use Rattle.trial.specs.Runs.{Says, ToldIfAnswered}
use Rattle.trial.specs.declared.calls.Plan.{Plan}

take_overlay : (xs ys : List ℕ) → length xs ≤ length ys → take (length xs) (overlay xs ys) ≡ xs
take_overlay [] ys h = refl
take_overlay (x ∷ xs) [] h = absurd (omega arith)
take_overlay (x ∷ xs) (y ∷ ys) h = ap (λ l. x ∷ l) (take_overlay xs ys (omega arith))

-- what was written over the start of a list is its first part
written : (n : ℕ) (xs ys zs : List ℕ) → n ≡ length xs → length xs ≤ length ys → zs ≡ overlay xs ys → take n zs ≡ xs
written n xs ys zs e le is = ap (λ k. take k zs) e ∙ ap (take (length xs)) is ∙ take_overlay xs ys le

ruled_length : (by : ℕ → ℕ → ℕ → Type 0) (p : ℕ) (qs us : List ℕ) → Ruled by p qs us → length us ≡ length qs
ruled_length by p [] [] h = refl
ruled_length by p [] (u ∷ us) h = absurd h
ruled_length by p (q ∷ qs) [] h = absurd h
ruled_length by p (q ∷ qs) (u ∷ us) h = ap suc (ruled_length by q qs us h.1)

-- the same refusal, and what is told where there is none
module _ {W : Type 0} {z : W} {add : W → Bool → W} {at_most : W → W → Bool} {R : Rules} (l : Ledger) {hs : List ℕ} {t : ℕ} {ms₀ ms : List ℕ} {ls₀ ls : List (Label W)} {plan₀ plan rules₀ rules : List ℕ} {r : Result (Found W) Unanswered}
    (h : Asked z add at_most R (LedgerGrants R l) (LedgerRule R l) hs t ms₀ ms ls₀ ls plan₀ plan rules₀ rules r)
    (marks : R.count ≤ length ms₀) (labels : R.count ≤ length ls₀) (for_plan : R.count ≤ length plan₀) (for_rules : R.count ≤ length rules₀) where
  says : (a : Result (Plan W) Unanswered) → refusal a ≡ refusal r → ToldIfAnswered z add at_most R l hs t a → Says z add at_most R l hs t a
  says a same told =
      let enough : R.count ≤ length hs → Enough R.count hs ms₀ ls₀ plan₀ rules₀ = λ le. record { held = le; marks = marks; labels = labels; plan = for_plan; rules = for_rules } in
      record {
        short_exactly_when_held_bytes_are_missing = (
          (λ e. ⊎_elim (λ lt. lt) (λ le. absurd (h.short_memory_exactly_when_not_enough.0 (omega arith) (enough le))) (cases_lt (length hs) R.count)),
          λ lt. same ∙ h.short_memory_exactly_when_not_enough.1 (λ e. omega (arith, e.held)),
        );
        bad_byte_exactly_when_neither_0_nor_1 = (
          (λ e. let k = h.bad_byte_exactly_when_neither_0_nor_1.0 (omega arith) in (k.0.held, k.1)),
          λ k. same ∙ h.bad_byte_exactly_when_neither_0_nor_1.1 (enough k.0, k.1),
        );
        not_live_exactly_when_some_is_dead = (
          (λ e. let k = h.not_live_exactly_when_some_is_dead.0 (omega arith) in (k.0.held, k.1, k.2)),
          λ k. same ∙ h.not_live_exactly_when_some_is_dead.1 (enough k.0, k.1, k.2),
        );
        no_chain_exactly_when_none = (
          (λ e. let k = h.no_chain_exactly_when_none.0 (omega arith) in ((k.0.held, k.1, k.2), k.3)),
          λ k. same ∙ h.no_chain_exactly_when_none.1 (enough k.0.0, k.0.1, k.0.2, k.1),
        );
        told_if_answered = told;
      }

module _ {W : Type 0} {z : W} {add : W → Bool → W} {at_most : W → W → Bool} {R : Rules} (l : Ledger) {hs : List ℕ} {t : ℕ} {ms₀ ms : List ℕ} {ls₀ ls : List (Label W)} {plan₀ plan rules₀ rules : List ℕ} where
  pub says-refused : {e : Unanswered} → Asked z add at_most R (LedgerGrants R l) (LedgerRule R l) hs t ms₀ ms ls₀ ls plan₀ plan rules₀ rules (Err e) →
      R.count ≤ length ms₀ → R.count ≤ length ls₀ → R.count ≤ length plan₀ → R.count ≤ length rules₀ → Says z add at_most R l hs t (Err e)
  says-refused h marks labels for_plan for_rules = says l h marks labels for_plan for_rules _ refl tt

  pub says-plan : (a : Plan W) → Asked z add at_most R (LedgerGrants R l) (LedgerRule R l) hs t ms₀ ms ls₀ ls plan₀ plan rules₀ rules (Ok a.found) →
      R.count ≤ length ms₀ → R.count ≤ length ls₀ → R.count ≤ length plan₀ → R.count ≤ length rules₀ →
      vec_items a.privileges ≡ take (a.found.steps + 1) plan → vec_items a.rules ≡ take (a.found.steps + 1) rules → Says z add at_most R l hs t (Ok a)
  says-plan a h marks labels for_plan for_rules onPlan onRules =
      let p = h.planned_or_left.2 in
      let q = p.is_a_least_plan in
      let many = ruled_length (LedgerRule R l) p.first p.rest p.beside q.each_step_has_its_rule in
      let enough : R.count ≤ length hs = ⊎_elim (λ lt. absurd (omega (arith, h.short_memory_exactly_when_not_enough.1 (λ e. omega (arith, e.held))))) (λ le. le) (cases_lt (length hs) R.count) in
      says l h marks labels for_plan for_rules (Ok a) refl (
        (enough, h.planned_or_left.0, h.planned_or_left.1),
        record {
          first = p.first;
          rest = p.rest;
          beside = p.beside;
          privileges_held_end_first = onPlan ∙ written (a.found.steps + 1) (p.first ∷ p.rest) plan₀ plan (omega (arith, q.steps_are_the_plans)) (omega (arith, q.shorter_than_the_count)) p.written_held_end_first;
          rules_beside_them = onRules ∙ written (a.found.steps + 1) (0 ∷ p.beside) rules₀ rules (omega (arith, q.steps_are_the_plans, many)) (omega (arith, q.shorter_than_the_count, many)) p.rules_written_beside;
          is_a_least_plan = q;
        },
      )
