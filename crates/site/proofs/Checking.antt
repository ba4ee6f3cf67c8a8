-- The loop over the hosts that looks for a text that is missing. Assumes nothing.
use Rattle.std.proofs.Common.{◌≡◌, ℕ, ◌+◌, ◌<◌, List, ◌∷◌, map, length, get_or, drop, Some, None, Err, sym, ap, ◌∙◌}
use Rattle.std.proofs.lemmas.List.{drop_more}
use Rattle.reading.specs.declared.fault.Kind.{Kind}
use Rattle.host.specs.declared.host.Host.{Host}
use Rattle.host.specs.Tables.{host_tables}
use Rattle.host.specs.Wanted.{first_unread}
use Rattle.site.specs.Checks.{missing, unread_or, checked_from}

module _ (hs : List Host) (i : ℕ) (x : Host) (lt : i < length hs) (is : x ≡ get_or hs i x) where
  here : checked_from i (map host_tables (drop i hs)) ≡ unread_or i (first_unread (host_tables x)) (checked_from (i + 1) (map host_tables (drop (i + 1) hs)))
  here = ap (λ ys. checked_from i (map host_tables ys)) (drop_more hs i x lt ∙ ap (λ y. y ∷ drop (i + 1) hs) (sym is))

  pub check-here : (k : Kind) → Some k ≡ first_unread (host_tables x) → checked_from i (map host_tables (drop i hs)) ≡ Err (missing i k)
  check-here k e = here ∙ ap (λ o. unread_or i o (checked_from (i + 1) (map host_tables (drop (i + 1) hs)))) (sym e)

  pub check-later : None ≡ first_unread (host_tables x) → checked_from i (map host_tables (drop i hs)) ≡ checked_from (i + 1) (map host_tables (drop (i + 1) hs))
  check-later e = here ∙ ap (λ o. unread_or i o (checked_from (i + 1) (map host_tables (drop (i + 1) hs)))) (sym e)
