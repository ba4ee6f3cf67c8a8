-- What holds of a table's rows holds with one more. Assumes nothing.
use Rattle.std.proofs.Common.{◌≡◌, ℕ, zero, suc, ◌<◌, ◌≤◌, Bool, true, false, cond, ltb, ◌⊎◌, List, [], ◌∷◌, ◌++◌, map, length, is_some, refl, ap, sym, ◌∙◌, inl, inr, ⊎_elim, arith, position}
use Rattle.std.specs.List.{list_any, position_or_len}
use Rattle.std.proofs.lemmas.List.{length-append, length-map, map_push}
use Rattle.std.proofs.lemmas.List.Folds.{list_any_at}
use Rattle.std.proofs.lemmas.List.Sums.{fails_before_first}
use Rattle.std.proofs.lemmas.Option.{slice_get_within, get_or_from_slice_get}
use Rattle.std.proofs.lemmas.Bool.{both_ways, ltb-true}
use Rattle.std.proofs.lemmas.Bool.Decides.{nat_tests}
use Rattle.region.specs.Sound.{Entry, Each, Distinct}

-- a row of the longer table is an old one or the last
nth_push : {X : Type 0} (xs : List X) (x y : X) (i : ℕ) → Entry (xs ++ x ∷ []) i y → Entry xs i y ⊎ ((i ≡ length xs) × (x ≡ y))
nth_push [] x y zero e = inr (refl, cc)
nth_push [] x y (suc i) e = grind arith
nth_push (a ∷ xs) x y zero e = inl e
nth_push (a ∷ xs) x y (suc i) e = ⊎_elim (λ h. inl h) (λ h. inr (ap suc h.0, h.1)) (nth_push xs x y i e)

pub few_push : {X : Type 0} (most : ℕ) (xs : List X) (x : X) → length xs < most → length (xs ++ x ∷ []) ≤ most
few_push {X = X} most xs x h = omega (arith, length-append {A = X})

pub each_push : {X : Type 0} (P : X → Type 0) (xs : List X) (x : X) → Each P xs → P x → Each P (xs ++ x ∷ [])
each_push P xs x h p i y e = ⊎_elim (λ k. h i y k) (λ k. rw (← k.1) p) (nth_push xs x y i e)

-- the key of a row is new, where each row of that key would pass a test that no row passes
module _ {X K : Type 0} (key : X → K) (xs : List X) (x : X) (d : Distinct key xs) (p : X → Bool) (none : (i : ℕ) (y : X) → Entry xs i y → p y ≡ true → ⊥) (same : (y : X) → key y ≡ key x → p y ≡ true) where
  at_places : (i j : ℕ) (a b : X) → Entry xs i a ⊎ ((i ≡ length xs) × (x ≡ a)) → Entry xs j b ⊎ ((j ≡ length xs) × (x ≡ b)) → key a ≡ key b → i ≡ j
  at_places i j a b (inl p) (inl q) e = d i j a b p q e
  at_places i j a b (inl p) (inr q) e = absurd (none i a p (same a (e ∙ ap key (sym q.1))))
  at_places i j a b (inr p) (inl q) e = absurd (none j b q (same b (sym e ∙ ap key (sym p.1))))
  at_places i j a b (inr p) (inr q) e = p.0 ∙ sym q.0

  pub distinct_push : Distinct key (xs ++ x ∷ [])
  distinct_push i j a b p q e = at_places i j a b (nth_push xs x a i p) (nth_push xs x b j q) e

-- where a search finds no row that passes, none does
module _ {X : Type 0} (p : X → Bool) (xs : List X) (i : ℕ) (y : X) (e : Entry xs i y) (t : p y ≡ true) where
  there : i < length xs
  there = slice_get_within xs i y e

  pub not_placed : is_some (position p xs) ≡ false → ⊥
  not_placed h =
      let far : length xs ≤ position_or_len p xs = grind (arith, nat_tests) in
      let fails = fails_before_first p xs i y (omega (arith, there, far)) in
      both_ways _ (rw (get_or_from_slice_get xs i y y e) at fails) t

  pub not_any : list_any p xs ≡ false → ⊥
  not_any h = both_ways _ h (list_any_at p xs i y there (rw (get_or_from_slice_get xs i y y e) t))

-- what holds of the rows holds after a push, which adds a row where there is room
module _ {X Y : Type 0} (view : X → Y) (P : List Y → Type 0) (most : ℕ) (xs : List X) (x : X) (s : P (map view xs)) (more : length (map view xs) < most → P (map view xs ++ view x ∷ [])) where
  pushed_at : (t : Bool) → ltb (length xs) most ≡ t → P (map view (cond t (xs ++ x ∷ []) xs))
  pushed_at true h = rw map_push (more (rw length-map (ltb-true (length xs) most h)))
  pushed_at false h = s

  pub pushed : (ys : List X) → ys ≡ cond (ltb (length xs) most) (xs ++ x ∷ []) xs → P (map view ys)
  pushed ys e = rw e (pushed_at (ltb (length xs) most) refl)
