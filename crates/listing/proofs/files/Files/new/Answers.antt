use Rattle.listing.proofs.Tables.{first_kept}
use Rattle.listing.proofs.files.Files.new.Goals as goal

pub invariant_of-result : goal.invariant_of-result
invariant_of-result c =
    let kept = first_kept c.reset.new.rows c.reset.ensures in
    record { few = kept.few; fixed = kept.fixed; once = kept.once; parents = kept.parents; under = kept.under }
