use Rattle.std.proofs.Common.{◌≡◌, map, length, take}
use Rattle.listing.specs.Rows.{file_entry, absent}
use Rattle.listing.proofs.files.fixed.reset.Given as goal

abbrev pub invariant-loop-path : goal.invariant-loop-path
invariant-loop-path l = (map file_entry l.rows ≡ map (λ f. absent (f.0.now, f.1)) (take l.path-index l.path-items)) × (length l.rows ≡ l.path-index)
