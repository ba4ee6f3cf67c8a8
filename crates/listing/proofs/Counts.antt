-- A listing that is taken lists as many rows as it has entry lines. Assumes nothing.
use Rattle.std.proofs.Common.{◌≡◌, ℕ, ◌+◌, ◌<◌, Bool, true, false, cond, not, List, [], ◌∷◌, ◌++◌, length, get_or, set, is_some, OnOk, Some, None, Ok, Err, filter, Option, Result, nat_lt, refl, arith}
use Rattle.std.specs.Option.{option_and_then}
use Rattle.std.proofs.lemmas.Bool.{not-true}
use Rattle.std.proofs.lemmas.Grind.{common_steps}
use Rattle.std.proofs.lemmas.List.Sums.{sum_by-set, sum_by-append}
use Rattle.std.proofs.lemmas.List.{length-map}
use Rattle.std.proofs.lemmas.Option.{slice_get-get_or, slice_get_within}
use Rattle.text.specs.Cuts.{lines}
use Rattle.region.specs.Tables.{FileEntry}
use Rattle.reading.specs.declared.fault.Kind.{Kind}
use Rattle.reading.specs.declared.fault.LineFault.{LineFault}
use Rattle.reading.specs.declared.fault.TextFault.{TextFault}
use Rattle.reading.specs.declared.fault.Refusal.TheVariants.{Given, Full}
use Rattle.reading.specs.Reads.{and_then, passed_over, gives_entry, entry_lines, at_line, read_from, value_or, text_told}
use Rattle.listing.specs.Rows.{absent_rows, paths_of, place_of, stat_at}
use Rattle.listing.specs.Entries.{Listed, row}
use Rattle.listing.specs.Files.{above_of, put_at, put_step, entry_of, list_step, file_step, files_in}
use Rattle.listing.specs.Laws.{listed_rows}
use Rattle.listing.proofs.Places.{place-entry}
use Rattle.listing.proofs.Taken.{needs_ok, and_then_ok, at_line_ok}

module _ (xs : List FileEntry) (x : FileEntry) (listed : is_some x.stat ≡ true) where
  count_set : (k : ℕ) → k < length xs → is_some (stat_at xs k) ≡ false → listed_rows (set xs k x) ≡ listed_rows xs + 1
  count_set k within none =
      let old : is_some (get_or xs k x).stat ≡ false = rw (slice_get-get_or xs k x within) at none in
      let sum = sum_by-set (λ (y : FileEntry). cond (is_some y.stat) 1 0) xs k x x within in
      omega (arith, rw (listed, old) at sum)

  count_push : listed_rows (xs ++ x ∷ []) ≡ listed_rows xs + 1
  count_push = rw (sum_by-append (λ (y : FileEntry). cond (is_some y.stat) 1 0) xs (x ∷ []), listed)

  put-counts : (o : Option ℕ) → place_of x.path xs ≡ o → is_some (option_and_then (stat_at xs) o) ≡ false → (ys : List FileEntry) → put_at o xs x ≡ Ok ys → listed_rows ys ≡ listed_rows xs + 1
  put-counts (Some k) is none ys e =
      let same : set xs k x ≡ ys = cc in
      let within : k < length xs = rw (length-map xs (λ y. y.path)) at (slice_get_within (paths_of xs) k x.path (place-entry x.path (paths_of xs) k is)) in
      rw (← same) (count_set k within none)
  put-counts None is none ys e =
      let same : xs ++ x ∷ [] ≡ ys = let p = (needs_ok Full (nat_lt (length xs) 64) (Ok (xs ++ x ∷ [])) ys e).1 in cc in
      rw (← same) count_push

list-counts : (xs : List FileEntry) (r : Listed) (ys : List FileEntry) → list_step xs r ≡ Ok ys → listed_rows ys ≡ listed_rows xs + 1
list-counts xs r ys e =
    let above = and_then_ok (above_of xs r.path) (λ a. put_step xs (entry_of r a)) ys e in
    let free = needs_ok Given _ _ _ above.1 in
    put-counts xs (entry_of r above.0) refl (place_of r.path xs) refl (not-true _ free.0) ys above.2

line-counts : (b : Bool) (xs : List FileEntry) (l : List ℕ) (ys : List FileEntry) → cond b (Ok xs) (and_then (row l) (λ r. list_step xs r)) ≡ Ok ys → listed_rows ys ≡ listed_rows xs + cond (not b) 1 0
line-counts true xs l ys e = let same : xs ≡ ys = cc in rw (← same) (omega arith)
line-counts false xs l ys e = let r = and_then_ok (row l) (λ r. list_step xs r) ys e in list-counts xs r.0 ys r.2

lines-count : (n : ℕ) (xs : List FileEntry) (ls : List (List ℕ)) (ys : List FileEntry) → read_from file_step n xs ls ≡ Ok ys → listed_rows ys ≡ listed_rows xs + length (filter gives_entry ls)
lines-count n xs [] ys e = let same : xs ≡ ys = cc in rw (← same) (omega arith)
lines-count n xs (l ∷ ls) ys e =
    let step = and_then_ok (at_line n (file_step xs l)) (λ zs. read_from file_step (n + 1) zs ls) ys e in
    let here = line-counts (passed_over l) xs l step.0 (at_line_ok n (file_step xs l) step.0 step.1) in
    let rest = lines-count (n + 1) step.0 ls ys step.2 in
    grind (arith, common_steps)

text-counts : (b : Bool) (bs : List ℕ) (f : LineFault) (ys : List FileEntry) → cond b (read_from file_step 1 absent_rows (lines bs)) (Err f) ≡ Ok ys → listed_rows ys ≡ length (entry_lines bs)
text-counts true bs f ys e = omega (arith, lines-count 1 absent_rows (lines bs) ys e)
text-counts false bs f ys e = cc

told-counts : (k : Kind) (bs : List ℕ) (o : Result (List FileEntry) LineFault) → files_in bs ≡ o → OnOk (text_told k o) (listed_rows (value_or absent_rows o) ≡ length (entry_lines bs))
told-counts k bs (Ok ys) e = text-counts _ bs _ ys e
told-counts k bs (Err f) e = tt

pub counted : (k : Kind) (bs : List ℕ) (r : Result (Unit {0}) TextFault) (ys : List FileEntry) → r ≡ text_told k (files_in bs) → ys ≡ value_or absent_rows (files_in bs) → OnOk r (listed_rows ys ≡ length (entry_lines bs))
counted k bs r ys told held = rw (told, held) (told-counts k bs (files_in bs) refl)
