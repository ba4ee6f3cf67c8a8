use Rattle.std.proofs.Common.{true, false, ◌≡◌, rules}
use Rattle.std.proofs.lemmas.Iterator.{first_from_Range}
use Rattle.print.proofs.Found.{prints, printed_by}
use Rattle.print.proofs.forms.privilege_of.Goals as goal

pub returns : goal.returns
returns g c =
    let R = g.S.RuleSource.meaning c.args.source.now in
    let form = g.S.Named.form c.args.source.now in
    let line = c.args.line.now in
    printed_by R form line (g.S.RuleSource.lawful c.args.source.now) _ _ c.count.ensures
    (first_from_Range _ _ _ _ (λ p. prints R form line p ≡ true) (λ p. prints R form line p ≡ false) c.find.ensures.ran (λ x q k. search rules) (λ x q k. search rules))
