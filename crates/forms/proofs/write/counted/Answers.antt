use Rattle.std.proofs.Common.{sym, rules}
use Rattle.bounded.proofs.Clips.{clip, told}
use Rattle.print.proofs.Short.{fresh}
use Rattle.forms.proofs.Lengths.{counted_short}
use Rattle.forms.proofs.write.counted.Goals as goal

pub returns : goal.returns
returns c =
    fresh
    (clip c.add.ensures (clip c.put_number.ensures (clip c.add-2.ensures (clip (told c.add-3.ensures (sym c.as_slice.ensures)) (clip c.add-4.ensures (told c.add-5.ensures (sym c.as_slice-2.ensures)))))))
    c.new-form.ensures
    (counted_short _ c.args.number _ _ (search rules) c.requires (search rules) (search rules))
