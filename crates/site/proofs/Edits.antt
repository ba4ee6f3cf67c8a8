-- A call about one host: what it answers, and what it leaves. Assumes nothing.
use Rattle.std.proofs.Common.{◌≡◌, ℕ, zero, suc, ◌<◌, ◌≤◌, List, [], ◌∷◌, map, length, get_or, take, set, Some, Result, sym, refl, ap, ◌∙◌, arith, length-take}
use Rattle.std.proofs.Math.Seq.{take-set-lt, map-set_same}
use Rattle.std.proofs.lemmas.List.{length-map, map-set, get_or-take, get_or-map}
use Rattle.std.proofs.lemmas.Option.{slice_get_read}
use Rattle.std.specs.List.{slice_get}
use Rattle.std.specs.Borrow.{Bor, MutBor}
use Rattle.std.specs.Fn.{Once}
use Rattle.reading.specs.declared.fault.Kind.{Kind}
use Rattle.reading.specs.declared.fault.TextFault.{TextFault}
use Rattle.region.specs.Tables.{HostTables}
use Rattle.tables.specs.declared.hosts.HostNames.{HostNames}
use Rattle.tables.specs.HostsText.{hosts_of}
use Rattle.host.specs.declared.host.Host.{Host}
use Rattle.host.specs.Tables.{host_tables}
use Rattle.site.specs.declared.open.OpenSite.{OpenSite}
use Rattle.site.specs.Calls.{Acts, AnswersBy, LeavesBy}
use Rattle.site.specs.Models.{first_hosts, open_model, placed, host_answer, edited, host_after}

-- an edit is a write, where there is an item
edit-is : {X : Type 0} (f : X → X) (xs : List X) (i : ℕ) (x y : X) → slice_get xs i ≡ Some x → y ≡ f x → set xs i y ≡ edited f xs i
edit-is f [] i x y there e = refl
edit-is f (z ∷ xs) zero x y there e = let first : Some z ≡ Some x = there in ap (λ w. w ∷ xs) (cc)
edit-is f (z ∷ xs) (suc i) x y there e = ap (λ ws. z ∷ ws) (edit-is f xs i x y there e)

-- and nothing, where there is none
no-edit : {X : Type 0} (f : X → X) (xs : List X) (i : ℕ) → length xs ≤ i → xs ≡ edited f xs i
no-edit f [] i past = refl
no-edit f (x ∷ xs) zero past = absurd (omega arith)
no-edit f (x ∷ xs) (suc i) past = ap (λ ys. x ∷ ys) (no-edit f xs i (omega arith))

-- ys are the hosts that a site shows
module _ (s : OpenSite) (h : ℕ) (ys : List Host) (shown : map host_tables ys ≡ (open_model s).hosts) where
  many : length (open_model s).hosts ≡ length ys
  many = ap length (sym shown) ∙ length-map ys host_tables

  pub after-gone : length ys ≤ h → (after : HostTables → HostTables) → open_model s ≡ host_after h after (open_model s)
  after-gone gone after = ap (λ hs. record { hosts_read = s.names.read; hosts = hs }) (no-edit after (open_model s).hosts h (omega (arith, many)))

  module _ (there : h < length ys) (x y : Host) (is : x ≡ get_or s.hosts h x) where
    within : (h < length (hosts_of s.names.table)) × (h < length s.hosts)
    within = let l : h < length (open_model s).hosts = omega (arith, many) in (omega (arith, simp length-take at l), omega (arith, length-map s.hosts host_tables, simp length-take at l))

    held : get_or (open_model s).hosts h (host_tables x) ≡ host_tables x
    held = get_or-take _ (map host_tables s.hosts) h (host_tables x) within.0 ∙ get_or-map host_tables s.hosts h x (host_tables x) within.1 ∙ ap host_tables (sym is)

    found : slice_get (open_model s).hosts h ≡ Some (host_tables x)
    found = slice_get_read (open_model s).hosts _ h (host_tables x) (sym many) there (sym held)

    -- the hosts, with y in the place of x
    hosts-with : first_hosts (length (hosts_of s.names.table)) (set s.hosts h y) ≡ set (open_model s).hosts h (host_tables y)
    hosts-with = ap (take _) (map-set host_tables s.hosts h y) ∙ take-set-lt _ (map host_tables s.hosts) h (host_tables y) within.0

    pub names-kept : (host_tables y).name ≡ (host_tables x).name → map (λ t. t.name) (first_hosts (length (hosts_of s.names.table)) (set s.hosts h y)) ≡ hosts_of s.names.table
    names-kept e = ap (map (λ t. t.name)) hosts-with ∙ map-set_same (λ t. t.name) (open_model s).hosts h (host_tables y) (host_tables x) (e ∙ ap (λ t. t.name) (sym held)) ∙ s.named

    module _ {F : Type 0} (g : Once F (MutBor Host × (Bor HostNames × Unit {0})) (Result (Unit {0}) TextFault × (MutBor Host × Unit {0}))) (act : F) (r : Result (Unit {0}) TextFault) (acts : Acts g act s.names.table x r y) where
      pub told-there : (k : Kind) (answer : HostTables → Result (Unit {0}) TextFault) → AnswersBy g act s.names.table answer → placed h r ≡ host_answer k h answer (open_model s)
      told-there k answer a = rw found (ap (placed h) (a x r y acts))

      pub held-there : (after : HostTables → HostTables) → LeavesBy g act s.names.table after → record { hosts_read = s.names.read; hosts = first_hosts (length (hosts_of s.names.table)) (set s.hosts h y) } ≡ host_after h after (open_model s)
      held-there after a = ap (λ hs. record { hosts_read = s.names.read; hosts = hs }) (hosts-with ∙ edit-is after (open_model s).hosts h (host_tables x) (host_tables y) found (a x r y acts))
