use Rattle.std.proofs.Common.{sym, ◌∙◌, rules, tests}
use Rattle.std.specs.Str.{bytes_eq}
use Rattle.std.proofs.lemmas.Iterator.{YieldsList-from_slice}
use Rattle.std.proofs.lemmas.Iterator.Search.{position_from_yields_List}
use Rattle.text.specs.Kept.{path_bytes}
use Rattle.listing.specs.declared.row.FileRow.{FileRow}
use Rattle.listing.proofs.Places.{place_of-rows}
use Rattle.listing.proofs.files.places.place_of.Goals as goal

pub returns-clause-place : goal.returns-clause-place
returns-clause-place c =
    position_from_yields_List (λ (r : FileRow). bytes_eq (path_bytes r.path) c.args.path.now) _ _ _ c.position.ensures.ran (YieldsList-from_slice c.args.rows.now cc) (λ x b q k. search (rules, tests))
    ∙ sym (place_of-rows c.args.path.now c.args.rows.now)
