-- What every table of file rows keeps: on the first day, and as rows are put. Assumes nothing.
use Rattle.std.proofs.Common.{◌≡◌, ◌≢◌, ℕ, zero, suc, ◌<◌, ◌≤◌, true, false, List, [], ◌∷◌, ◌++◌, map, length, take, set, is_some, Some, None, codes, Option, if◌then◌else◌, nat_lt, sym, refl, ap, ◌∙◌, subst, ⊎_elim, arith, rules}
use Rattle.std.specs.List.{slice_get}
use Rattle.std.proofs.lemmas.Bool.{both_ways, or_cases, cases_lt, lt-ltb, le-ltb}
use Rattle.std.proofs.lemmas.List.{length-map, length-take, length-set, length_push, map_push, map-set, set-get_or, take-append-le}
use Rattle.std.proofs.lemmas.Option.{get_or_from_slice_get, none-some, same_Some}
use Rattle.std.proofs.lemmas.Slice.Eq.{bytes_eq-Decides}
use Rattle.text.specs.Kept.{path_bytes}
use Rattle.text.specs.Paths.{parent}
use Rattle.region.specs.Tables.{FileEntry, Stat}
use Rattle.listing.specs.declared.files.Files.{Files}
use Rattle.listing.specs.declared.row.FileRow.{FileRow}
use Rattle.listing.specs.Rows.{file_entry, absent_rows, paths_of, place_in, place_of, stat_at, is_dir, ParentAbove, FixedRows, PathsOnce, ParentsAbove, UnderDirs}
use Rattle.listing.specs.Files.{files_of, is_root, Fitting}
use Rattle.listing.proofs.Lists.{set_cases, push_cases, push_stays, at_place}
use Rattle.listing.proofs.Places.{place-entry, place-push_old, place-push_new, root_first}

pub record Kept (xs : List FileEntry) : Type 0 where
  pub few : length xs ≤ 64
  pub fixed : FixedRows xs
  pub once : PathsOnce xs
  pub parents : ParentsAbove xs
  pub under : UnderDirs xs

pub kept_of : (t : Files) → Kept (files_of t)
kept_of t = record { few = t.few; fixed = t.fixed; once = t.once; parents = t.parents; under = t.under }

absent_kept : Kept absent_rows
absent_kept = record {
  few = omega arith;
  fixed = refl;
  once = at_place (λ r p. place_of p absent_rows ≡ Some r) (paths_of absent_rows) (search rules);
  parents = at_place (λ r x. ParentAbove absent_rows x) absent_rows (search rules);
  under = λ r x e _ listed. absurd (both_ways _ (at_place (λ r x. is_some x.stat ≡ false) absent_rows (search rules) r x e) listed);
}

pub first_kept : (rows : List FileRow) → map file_entry rows ≡ absent_rows → Kept (map file_entry rows)
first_kept rows is = subst Kept (sym is) absent_kept

-- a path that is the root is that of row 0
root_place : (xs : List FileEntry) (p : List ℕ) → FixedRows xs → is_root p ≡ true → place_of p xs ≡ Some 0
root_place xs p fixed h = root_first p (paths_of xs) fixed ((bytes_eq-Decides p (codes "/")).0 h)

dir_listed : (o : Option Stat) → is_dir o ≡ true → is_some o ≡ true
dir_listed (Some s) d = refl
dir_listed None d = d

module _ (x : FileEntry) where
  -- a directory stays one as a row is put where none is listed, or at the end
  dir_set : (xs : List FileEntry) (k a : ℕ) → is_some (stat_at xs k) ≡ false → is_dir (stat_at xs a) ≡ true → is_dir (stat_at (set xs k x) a) ≡ true
  dir_set [] k a none d = d
  dir_set (y ∷ ys) zero zero none d = absurd (both_ways _ none (dir_listed y.stat d))
  dir_set (y ∷ ys) zero (suc a) none d = d
  dir_set (y ∷ ys) (suc k) zero none d = d
  dir_set (y ∷ ys) (suc k) (suc a) none d = dir_set ys k a none d

  dir_push : (xs : List FileEntry) (a : ℕ) → is_dir (stat_at xs a) ≡ true → is_dir (stat_at (xs ++ x ∷ []) a) ≡ true
  dir_push [] a d = absurd (both_ways _ refl d)
  dir_push (y ∷ ys) zero d = d
  dir_push (y ∷ ys) (suc a) d = dir_push ys a d

module _ (xs : List FileEntry) (x : FileEntry) (kept : Kept xs) (fits : Fitting xs x) where
  -- the row stands in the table after a write, or is the one that was put
  under-put : (ys : List FileEntry) (r : ℕ) → ((a : ℕ) → is_dir (stat_at xs a) ≡ true → is_dir (stat_at ys a) ≡ true) → (is_root x.path ≡ true → r ≡ 0) → (r ≢ 0) → is_dir (stat_at ys x.above) ≡ true
  under-put ys r stays root other = ⊎_elim (λ z. absurd (other (root z))) (λ d. stays x.above d) (or_cases (is_root x.path) _ fits.under)

  module _ (k : ℕ) (is : place_of x.path xs ≡ Some k) where
    unlisted : is_some (stat_at xs k) ≡ false
    unlisted = rw is at fits.unlisted

    same-paths : paths_of (set xs k x) ≡ paths_of xs
    same-paths =
        map-set (λ y. y.path) xs k x
        ∙ ap (set (paths_of xs) k) (sym (get_or_from_slice_get (paths_of xs) k x.path [] (place-entry x.path (paths_of xs) k is)))
        ∙ set-get_or (paths_of xs) k []

    pub set-kept : Kept (set xs k x)
    set-kept = record {
      few = rw length-set kept.few;
      fixed = ap (take 11) same-paths ∙ kept.fixed;
      once = subst (λ qs. (r : ℕ) (p : List ℕ) → slice_get qs r ≡ Some p → place_in p qs ≡ Some r) (sym same-paths) kept.once;
      parents = λ r y e.
          ap (λ qs. slice_get qs y.above) same-paths
          ∙ ⊎_elim (λ h. rw (← h.1) fits.there) (λ h. kept.parents r y h) (set_cases xs k r x y e);
      under = λ r y e other listed.
          ⊎_elim
          (λ h. rw (← h.1) (under-put (set xs k x) r (λ a d. dir_set x xs k a unlisted d) (λ z. h.0 ∙ same_Some k 0 (sym is ∙ root_place xs x.path kept.fixed z)) other))
          (λ h. dir_set x xs k y.above unlisted (kept.under r y h other listed))
          (set_cases xs k r x y e);
    }

  module _ (new : place_of x.path xs ≡ None) (room : length xs < 64) where
    more-paths : paths_of (xs ++ x ∷ []) ≡ paths_of xs ++ x.path ∷ []
    more-paths = map_push (λ y. y.path) xs x

    parents-stay : (y : FileEntry) → ParentAbove xs y → ParentAbove (xs ++ x ∷ []) y
    parents-stay y h = ap (λ qs. slice_get qs y.above) more-paths ∙ push_stays (paths_of xs) x.path y.above (parent y.path) h

    once-push : (r : ℕ) (p : List ℕ) → slice_get (paths_of xs ++ x.path ∷ []) r ≡ Some p → place_in p (paths_of xs ++ x.path ∷ []) ≡ Some r
    once-push r p e =
        ⊎_elim
        (λ h. rw (h.0, ← h.1) (place-push_new x.path (paths_of xs) new))
        (λ h. place-push_old p (paths_of xs) x.path r (kept.once r p h))
        (push_cases (paths_of xs) x.path r p e)

    pub push-kept : Kept (xs ++ x ∷ [])
    push-kept = record {
      few = omega (arith, length_push xs x);
      fixed = ap (take 11) more-paths ∙ take-append-le 11 (paths_of xs) (x.path ∷ []) (omega (arith, length-take 11 (paths_of xs), ap length kept.fixed)) ∙ kept.fixed;
      once = subst (λ qs. (r : ℕ) (p : List ℕ) → slice_get qs r ≡ Some p → place_in p qs ≡ Some r) (sym more-paths) once-push;
      parents = λ r y e. ⊎_elim (λ h. rw (← h.1) (parents-stay x fits.there)) (λ h. parents-stay y (kept.parents r y h)) (push_cases xs x r y e);
      under = λ r y e other listed.
          ⊎_elim
          (λ h. rw (← h.1) (under-put (xs ++ x ∷ []) r (λ a d. dir_push x xs a d) (λ z. absurd (none-some 0 (sym new ∙ root_place xs x.path kept.fixed z))) other))
          (λ h. dir_push x xs y.above (kept.under r y h other listed))
          (push_cases xs x r y e);
    }

-- the same of the rows that hold such a table
module _ (rows : List FileRow) (row : FileRow) (kept : Kept (map file_entry rows)) (fits : Fitting (map file_entry rows) (file_entry row)) where
  pub rows-set : (k : ℕ) → place_of (path_bytes row.path) (map file_entry rows) ≡ Some k → Kept (map file_entry (set rows k row))
  rows-set k is = rw (map-set file_entry rows k row) (set-kept (map file_entry rows) (file_entry row) kept fits k is)

  pub rows-push : place_of (path_bytes row.path) (map file_entry rows) ≡ None → Kept (map file_entry (if nat_lt (length rows) 64 then rows ++ row ∷ [] else rows))
  rows-push new =
      ⊎_elim
      (λ room. rw (lt-ltb (length rows) 64 room, map_push file_entry rows row) (push-kept (map file_entry rows) (file_entry row) kept fits new (rw (length-map rows file_entry) room)))
      (λ full. rw (le-ltb (length rows) 64 full) kept)
      (cases_lt (length rows) 64)
