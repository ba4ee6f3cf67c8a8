use Rattle.std.proofs.Common.{[], length, refl}
use Rattle.tables.proofs.Counts.{counted_entries}
use Rattle.trust.specs.TrustText.{trust_step}
use Rattle.trust.proofs.TrustLaws.{trust_sound, trust_grows}
use Rattle.trust.proofs.lines.read.read_lines.Goals as goal

pub returns-clause-sound : goal.returns-clause-sound
returns-clause-sound g c = let lines = c.read_text.new.table in trust_sound g.row.N lines.rows lines.few

pub returns-clause-counted : goal.returns-clause-counted
returns-clause-counted g c = λ ok. counted_entries (trust_step g.row.N) [] _ c.args.text.now c.read_text.ensures.held _ _ c.read_text.ensures.told ok length refl (trust_grows g.row.N)
