-- What a site means as a rule source. Assumes nothing.
use Rattle.std.specs.Prelude.{ℕ, ◌/◌, Bool, cond, ◌&&◌, List, Some, None, ◌==◌, nat_lt}
use Rattle.std.specs.List.{slice_get}
use Rattle.rules.specs.Rules.{Rules}
use Rattle.text.specs.Bytes.{and_then}
use Rattle.region.specs.Privileges.{decoded}
use Rattle.region.specs.Tables.{HostTables}
use Rattle.allows.specs.Live.{site_live}
use Rattle.allows.specs.Slots.{Slot, root_slot, right_slot}

-- what a slot holds by the rules, whether the granting privilege is live or not
abbrev pub ruled_slot : List HostTables → ℕ → ℕ → Slot
ruled_slot hs g k = cond (g == 1416) (root_slot hs k) (and_then (decoded g) (λ x. and_then (slice_get hs x.host) (λ t. right_slot hs t x.host x.right k)))

-- a slot whose privilege is not live holds nothing
abbrev pub if_live : (ℕ → Bool) → Slot → Slot
if_live live None = None
if_live live (Some x) = cond (live x.0) (Some x) None

-- nor does a slot of one that is not live, or one from 140 on
abbrev pub site_slot : List HostTables → ℕ → ℕ → Slot
site_slot hs g k = cond (site_live hs g && nat_lt k 140) (if_live (site_live hs) (ruled_slot hs g k)) None

-- a privilege's place is its host, and root at any host has a place of its own
abbrev pub site_place : ℕ → ℕ
site_place p = cond (nat_lt p 1417) (p / 177) 0

-- a site as a rule source
abbrev pub site_rules : List HostTables → Rules
site_rules hs = record { count = 1417; width = 140; live = site_live hs; place = site_place; slot = site_slot hs }
