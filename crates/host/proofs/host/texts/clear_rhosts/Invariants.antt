use Rattle.std.proofs.Common.{◌≡◌, ◌<◌, ℕ, false, [], length, slice_index_or}
use Rattle.host.specs.Tables.{lines_of}
use Rattle.host.proofs.host.texts.clear_rhosts.Given as goal

abbrev pub invariant-loop-rhosts : goal.invariant-loop-rhosts
invariant-loop-rhosts l = (length l.list ≡ 16) × ((i : ℕ) (d : _) → i < l.rhosts-index → (lines_of (slice_index_or l.list i d) ≡ []) × ((slice_index_or l.list i d).read ≡ false))
