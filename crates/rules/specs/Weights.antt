-- The two measures: steps, and crossings then steps, each half stopping at 65,535.
use Rattle.std.specs.Prelude.{ℕ, ◌+◌, ◌≤◌, min, Bool, true, false, cond, ◌&&◌, ◌||◌, ◌==◌, nat_le, nat_lt}
use Rattle.std.proofs.Common.{arith}
use Rattle.rules.specs.declared.weights.Steps.{Steps}
use Rattle.rules.specs.declared.weights.Crossings.{Crossings}

-- one more, stopping at 65,535
abbrev pub stop : ℕ → ℕ
stop n = min (n + 1) 65535

-- what has stopped fits sixteen bits
pub stop_fits : (n : ℕ) → stop n ≤ 65535
stop_fits n = omega arith

-- steps: none, one more whether crossing or not, and at most as many
abbrev pub no_steps : Steps
no_steps = record { count = 0; fits = omega arith }

abbrev pub steps_added : Steps → Bool → Steps
steps_added w crossing = record { count = stop w.count; fits = stop_fits w.count }

abbrev pub steps_at_most : Steps → Steps → Bool
steps_at_most x y = nat_le x.count y.count

-- crossings and steps: neither
abbrev pub no_crossings : Crossings
no_crossings = record { crossings = 0; steps = 0; fits = (omega arith, omega arith) }

-- the steps once a crossing is added: one more, or 65,535 where the crossings have stopped
abbrev pub crossed_steps : ℕ → ℕ → ℕ
crossed_steps crossings steps = cond (nat_lt crossings 65535) (stop steps) 65535

-- that fits sixteen bits too
pub crossed_fits : (crossings steps : ℕ) → crossed_steps crossings steps ≤ 65535
crossed_fits crossings steps = fits (nat_lt crossings 65535)
  where
    fits : (b : Bool) → cond b (stop steps) 65535 ≤ 65535
    fits true = stop_fits steps
    fits false = omega arith

-- a step more, crossing or not; a crossing past 65,535 gives (65,535, 65,535)
abbrev pub crossings_added : Crossings → Bool → Crossings
crossings_added w false = record { crossings = w.crossings; steps = stop w.steps; fits = (w.fits.0, stop_fits w.steps) }
crossings_added w true = record { crossings = stop w.crossings; steps = crossed_steps w.crossings w.steps; fits = (stop_fits w.crossings, crossed_fits w.crossings w.steps) }

-- fewer crossings, or as many and at most as many steps
abbrev pub crossings_at_most : Crossings → Crossings → Bool
crossings_at_most x y = nat_lt x.crossings y.crossings || (x.crossings == y.crossings && nat_le x.steps y.steps)
