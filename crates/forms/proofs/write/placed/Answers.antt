use Rattle.std.proofs.Common.{sym, rules}
use Rattle.bounded.proofs.Clips.{clip, told}
use Rattle.print.proofs.Short.{fresh}
use Rattle.forms.proofs.Lengths.{placed_short}
use Rattle.forms.proofs.write.placed.Goals as goal

pub returns : goal.returns
returns c =
    fresh (clip c.add.ensures (clip c.add-2.ensures (clip c.add-3.ensures (told c.add-4.ensures (sym c.as_slice.ensures))))) c.new-form.ensures (placed_short _ _ _ c.requires (search rules))
