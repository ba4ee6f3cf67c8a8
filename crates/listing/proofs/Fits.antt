-- A row that may be listed fits into the table. Assumes nothing.
use Rattle.std.proofs.Common.{◌≡◌, ◌||◌, List, Ok}
use Rattle.std.proofs.lemmas.Bool.{not-true}
use Rattle.text.specs.Paths.{parent}
use Rattle.region.specs.Tables.{FileEntry}
use Rattle.reading.specs.declared.fault.Refusal.TheVariants.{Given, Unknown}
use Rattle.listing.specs.Rows.{paths_of, place_of, stat_at, is_dir}
use Rattle.listing.specs.Files.{is_root, above_of, Fitting}
use Rattle.listing.proofs.Places.{place-entry}
use Rattle.listing.proofs.Taken.{wants_ok, needs_ok}

pub fits : (xs : List FileEntry) (x : FileEntry) → above_of xs x.path ≡ Ok x.above → Fitting xs x
fits xs x e =
    let free = needs_ok Given _ _ x.above e in
    let above = wants_ok Unknown (place_of (parent x.path) xs) _ x.above free.1 in
    let under = needs_ok Unknown (is_root x.path || is_dir (stat_at xs above.0)) _ x.above above.2 in
    let is : above.0 ≡ x.above = cc in
    record {
      unlisted = not-true _ free.0;
      there = place-entry (parent x.path) (paths_of xs) x.above (rw is at above.1);
      under = rw is at under.0;
    }
