use Rattle.std.proofs.Common.{map, rules}
use Rattle.std.proofs.lemmas.List.{map-set}
use Rattle.listing.specs.Rows.{file_entry}
use Rattle.listing.proofs.Tables.{Kept, kept_of, rows-set, rows-push}
use Rattle.listing.proofs.files.Files.put.Goals as goal

pub invariant_of-self : goal.invariant_of-self
invariant_of-self c =
    let t = c.args.self.now in
    let kept : Kept (map file_entry c.set.new.self) = rw c.set.ensures.held (rows-set t.rows c.args.row (kept_of t) c.requires c.in-Some.place (search rules)) in
    record { few = kept.few; fixed = kept.fixed; once = kept.once; parents = kept.parents; under = kept.under }

pub invariant_of-self-in-None : goal.invariant_of-self-in-None
invariant_of-self-in-None c =
    let t = c.args.self.now in
    let kept : Kept (map file_entry c.push.new.self) = rw c.push.ensures.held (rows-push t.rows c.args.row (kept_of t) c.requires (search rules)) in
    record { few = kept.few; fixed = kept.fixed; once = kept.once; parents = kept.parents; under = kept.under }

pub returns-in-Some : goal.returns-in-Some
returns-in-Some c = search (rules, map-set)
