use Rattle.std.proofs.Common.{◌≤◌, length}
use Rattle.trying.proofs.script.Reader.pass_over.Given as goal

abbrev pub invariant-loop : goal.invariant-loop
invariant-loop l = length l.self.rest.now ≤ length l.initial.self.rest.now

abbrev pub decreases-loop : goal.decreases-loop
decreases-loop l = length l.self.rest.now
