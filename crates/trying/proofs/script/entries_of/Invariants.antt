use Rattle.std.proofs.Common.{length}
use Rattle.trying.proofs.script.entries_of.Given as goal

abbrev pub decreases-loop-line : goal.decreases-loop-line
decreases-loop-line g l = length l.reader.rest.now
