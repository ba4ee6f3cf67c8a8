-- The facts of the hub, by computing; and the two about questions, from what every question promises. Assumes nothing.
use Rattle.std.proofs.Common.{◌≡◌, ℕ, true, List, [], ◌∷◌, length, refl, ap, ◌∙◌}
use Rattle.rules.specs.Chains.{Grants, LeadsBy, ChainBy}
use Rattle.rules.specs.Weights.{crossings_added, stop, crossed_steps}
use Rattle.rules.specs.declared.weights.Crossings.{Crossings}
use Rattle.search.specs.Questions.{NoneHeld}
use Rattle.hub.specs.Hub.{HeldBy, HeldTarget, NothingHeld}

-- a way of a step or more ends at the last of its privileges: where none of them is held, its end is not
end_not_held : (step : ℕ → ℕ → ℕ → Type 0) (held : ℕ → Type 0) (p q : ℕ) (qs : List ℕ) (t : ℕ) → LeadsBy step p (q ∷ qs) t → NoneHeld held (q ∷ qs) → held t → ⊥
end_not_held step held p q [] t l n h = n.0 (rw l.1 h)
end_not_held step held p q (r ∷ rs) t l n h = end_not_held step held q r rs t l.1 n.1 h

no_step : (step : ℕ → ℕ → ℕ → Type 0) (held : ℕ → Type 0) (p : ℕ) (ps : List ℕ) (t : ℕ) → LeadsBy step p ps t → NoneHeld held ps → held t → length ps ≡ 0
no_step step held p [] t l n h = refl
no_step step held p (q ∷ qs) t l n h = absurd (end_not_held step held p q qs t l n h)

pub held_target : HeldTarget
held_target q f e h =
    let a = q.asked.planned_or_left in
    let p = (rw e at a).2 in
    p.is_a_least_plan.steps_are_the_plans ∙ no_step (Grants q.source) (HeldBy q) p.first p.rest q.target p.is_a_least_plan.plan_is_a_chain.2 p.is_a_least_plan.none_but_the_first_held h

pub nothing_held : NothingHeld
nothing_held q enough bits live none =
    q.asked.no_chain_exactly_when_none.1 (enough, bits, (live, λ p lt h. absurd (none p h)), chainless)
  where
    chainless : (ps : List ℕ) → ChainBy q.source (Grants q.source) (HeldBy q) q.target ps → ⊥
    chainless [] c = c
    chainless (p ∷ ps) c = none p c.0

pub at_the_edge : (w : Crossings) → w.crossings ≡ 65534 → w.steps ≡ 9 → ((crossings_added w true).crossings ≡ 65535) × ((crossings_added w true).steps ≡ 10)
at_the_edge w c s = (ap stop c, ap (λ n. crossed_steps n w.steps) c ∙ ap (crossed_steps 65534) s)
