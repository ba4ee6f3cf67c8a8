-- The place of the row of a path. Assumes nothing.
use Rattle.std.proofs.Common.{◌≡◌, ℕ, ◌+◌, ◌≤◌, Bool, true, cond, not, List, [], ◌∷◌, ◌++◌, map, length, take, Some, None, codes, position, refl, ap, ◌∙◌, arith}
use Rattle.std.specs.List.{position_or_len, slice_get}
use Rattle.std.specs.Str.{bytes_eq}
use Rattle.std.proofs.lemmas.Grind.{common_steps}
use Rattle.std.proofs.lemmas.List.{length-map}
use Rattle.std.proofs.lemmas.List.Folds.{position_or_len_push}
use Rattle.std.proofs.lemmas.List.Sums.{prefix_len-le-length}
use Rattle.std.proofs.lemmas.List.Quantifiers.{position-Some}
use Rattle.std.proofs.lemmas.Option.{slice_get-get_or}
use Rattle.std.proofs.lemmas.Slice.Eq.{bytes_eq-Decides}
use Rattle.text.specs.Kept.{path_bytes}
use Rattle.region.specs.Sound.{fixed_paths}
use Rattle.listing.specs.declared.row.FileRow.{FileRow}
use Rattle.listing.specs.Rows.{file_entry, place_in, place_of}

position_or_len-map : {X Y : Type 0} (p : Y → Bool) (f : X → Y) (xs : List X) → position_or_len p (map f xs) ≡ position_or_len (λ x. p (f x)) xs
position_or_len-map p f [] = refl
position_or_len-map p f (x ∷ xs) = ap (λ n. cond (not (p (f x))) (1 + n) 0) (position_or_len-map p f xs)

position-map : {X Y : Type 0} (p : Y → Bool) (f : X → Y) (xs : List X) → position p (map f xs) ≡ position (λ x. p (f x)) xs
position-map p f xs = rw (length-map xs f, position_or_len-map p f xs)

pub place_of-rows : (p : List ℕ) (rows : List FileRow) → place_of p (map file_entry rows) ≡ position (λ r. bytes_eq (path_bytes r.path) p) rows
place_of-rows p rows = position-map (λ q. bytes_eq q p) (λ x. x.path) (map file_entry rows) ∙ position-map (λ x. bytes_eq x.path p) file_entry rows

module _ (p : List ℕ) (qs : List (List ℕ)) where
  pub place-entry : (i : ℕ) → place_in p qs ≡ Some i → slice_get qs i ≡ Some p
  place-entry i e =
      let at = position-Some (λ q. bytes_eq q p) qs i [] e in
      slice_get-get_or qs i [] at.0 ∙ ap Some ((bytes_eq-Decides _ p).0 at.1)

  pub place-push_old : (q : List ℕ) (i : ℕ) → place_in p qs ≡ Some i → place_in p (qs ++ q ∷ []) ≡ Some i
  place-push_old q i e = grind (arith, common_steps)

  pub place-push_new : place_in p qs ≡ None → place_in p (qs ++ p ∷ []) ≡ Some (length qs)
  place-push_new e =
      let same : bytes_eq p p ≡ true = (bytes_eq-Decides p p).1 refl in
      let most : position_or_len (λ q. bytes_eq q p) qs ≤ length qs = prefix_len-le-length (λ q. not (bytes_eq q p)) qs in
      grind (arith, common_steps, position_or_len_push (λ q. bytes_eq q p) qs p)

-- the root is the first of the rows
pub root_first : (p : List ℕ) (qs : List (List ℕ)) → take 11 qs ≡ fixed_paths → p ≡ codes "/" → place_in p qs ≡ Some 0
root_first p (q ∷ qs) e is = let first : q ≡ codes "/" = cc in rw (first, is) (grind (arith, common_steps))
root_first p [] e is = cc
