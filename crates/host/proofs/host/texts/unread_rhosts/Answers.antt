use Rattle.std.proofs.Common.{false, [], rules}
use Rattle.std.proofs.lemmas.Result.{IfOk-weaker}
use Rattle.trust.specs.declared.lines.TrustLines.{TrustLines}
use Rattle.host.specs.declared.text_table.TextTable.{TextTable}
use Rattle.host.specs.Tables.{lines_of}
use Rattle.host.proofs.Scans.{all-alike}
use Rattle.host.proofs.host.texts.unread_rhosts.Goals as goal

pub returns-clause-lines : goal.returns-clause-lines
returns-clause-lines c = IfOk-weaker _ _ _ (λ xs made. all-alike lines_of [] 16 xs made.long (λ i d l. let call = made.at i d l in search rules)) c.try_from_fn.ensures.ok

pub returns-clause-read : goal.returns-clause-read
returns-clause-read c = IfOk-weaker _ _ _ (λ xs made. all-alike {X = TextTable (TrustLines 4)} (λ x. x.read) false 16 xs made.long (λ i d l. let call = made.at i d l in search rules)) c.try_from_fn.ensures.ok
