-- Assumed grants and barred privileges over any rule source, as a change of what the source means.
use Rattle.std.specs.Prelude.{ℕ, ◌+◌, ◌-◌, min, Bool, cond, ◌&&◌, List, [], ◌∷◌, Some, None, Option, ◌==◌, nat_lt}
use Rattle.std.specs.List.{slice_get, list_any}
use Rattle.rules.specs.Rules.{Rules}

-- how many assumptions there is room for: 32, or what the widest source leaves
abbrev pub room : Rules → ℕ
room R = min 32 (1024 - R.width)

-- what an assumption, if there is one, puts into a slot of g: that p grants g, under rule 200
abbrev pub granted : (ℕ → Bool) → ℕ → Option (ℕ × ℕ) → Option (ℕ × ℕ)
granted live g None = None
granted live g (Some x) = cond (x.1 == g && (live x.0 && live g)) (Some (x.0, 200)) None

-- the source with assumptions: number k, a pair of who grants and what is granted, stands in slot w + k of the latter
abbrev pub with_assumed : Rules → List (ℕ × ℕ) → Rules
with_assumed R ps = record {
  count = R.count;
  width = R.width + room R;
  live = R.live;
  place = R.place;
  slot = λ g k. cond (nat_lt k R.width) (R.slot g k) (cond (nat_lt k (R.width + room R)) (granted R.live g (slice_get ps (k - R.width))) None);
}

-- the list without the first element that passes; later ones move down
abbrev pub without : {X : Type 0} → (X → Bool) → List X → List X
without t [] = []
without t (x ∷ xs) = cond (t x) xs (x ∷ without t xs)

abbrev pub is_bar : ℕ → ℕ → Bool
is_bar p x = x == p

abbrev pub is_pair : ℕ → ℕ → ℕ × ℕ → Bool
is_pair p g x = x.0 == p && x.1 == g

-- p is barred
abbrev pub member : ℕ → List ℕ → Bool
member p bs = list_any (is_bar p) bs

-- what a slot holds, but nothing where that is barred
abbrev pub unless_barred : List ℕ → Option (ℕ × ℕ) → Option (ℕ × ℕ)
unless_barred bs None = None
unless_barred bs (Some x) = cond (member x.0 bs) None (Some x)

-- the source with bars: a barred privilege's slots, and slots that led to it, are empty; it stays live
abbrev pub with_barred : Rules → List ℕ → Rules
with_barred R bs = record {
  count = R.count;
  width = R.width;
  live = R.live;
  place = R.place;
  slot = λ g k. cond (member g bs) None (unless_barred bs (R.slot g k));
}
