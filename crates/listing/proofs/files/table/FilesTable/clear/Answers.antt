use Rattle.listing.proofs.Tables.{first_kept}
use Rattle.listing.proofs.files.table.FilesTable.clear.Goals as goal

pub invariant_of-self : goal.invariant_of-self
invariant_of-self c =
    let kept = first_kept c.reset.new.rows c.reset.ensures in
    record { few = kept.few; fixed = kept.fixed; once = kept.once; parents = kept.parents; under = kept.under }
