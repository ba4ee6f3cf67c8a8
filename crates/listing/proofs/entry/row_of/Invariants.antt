use Rattle.std.proofs.Common.{◌≡◌, map}
use Rattle.std.specs.Iterator.Adapters.{enumerate_count, enumerate_source}
use Rattle.text.specs.Parts.{words_left}
use Rattle.listing.specs.Words.{piece_of}
use Rattle.listing.specs.Entries.{row_after, row}
use Rattle.listing.proofs.entry.row_of.Given as goal

abbrev pub invariant-loop-place : goal.invariant-loop-place
invariant-loop-place l = row_after l.found l.covered (enumerate_count l.place-iterator) (map piece_of (words_left (enumerate_source l.place-iterator))) ≡ row l.line
