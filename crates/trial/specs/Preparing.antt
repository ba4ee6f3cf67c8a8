-- What is made before a run: memory for its plans.
use Rattle.std.specs.Prelude.{ℕ, ◌≤◌, vec_len}
use Rattle.trial.specs.declared.calls.PlanMemory.{PlanMemory}

-- room for a plan of n privileges
pub record Wide (n : ℕ) (m : PlanMemory) : Type 0 where
  pub for_plan : n ≤ vec_len m.plan
  pub for_rules : n ≤ vec_len m.rules
