use Rattle.std.proofs.Common.{ap, ◌∙◌, rules, tests}
use Rattle.std.specs.List.{list_any, enumerate_from}
use Rattle.std.proofs.lemmas.Iterator.{YieldsList-from_slice}
use Rattle.std.proofs.lemmas.Iterator.Consumers.{YieldsList-from_enumerate}
use Rattle.std.proofs.lemmas.Iterator.Search.{any_from_yields_List}
use Rattle.tables.specs.Rows.{account_entry}
use Rattle.host.specs.Tables.{host_tables}
use Rattle.host.specs.Wanted.{wants_rhosts_of}
use Rattle.host.proofs.Scans.{any-numbered}
use Rattle.host.proofs.host.Host.wants_rhosts.Goals as goal

pub returns : goal.returns
returns c =
    let rows = c.accounts.result.now in
    any_from_yields_List (λ p. wants_rhosts_of (host_tables c.args.self.now) p.0 (account_entry p.1)) _ _ _ c.any.ensures.ran (YieldsList-from_enumerate (YieldsList-from_slice rows (cc)) (cc)) (λ x b q k. search (rules, tests))
    ∙ any-numbered account_entry (λ p. wants_rhosts_of (host_tables c.args.self.now) p.0 p.1) 0 rows
    ∙ ap (λ xs. list_any (λ p. wants_rhosts_of (host_tables c.args.self.now) p.0 p.1) (enumerate_from 0 xs)) c.accounts.ensures.entries
