-- The table of a host's file rows, and what a listing makes of it. Assumes nothing.
use Rattle.std.specs.Prelude.{◌≡◌, ℕ, Bool, true, false, cond, not, ◌||◌, List, [], ◌∷◌, ◌++◌, map, length, is_some, Some, None, Ok, codes, Option, option_and_then, Result, nat_lt, slice_set}
use Rattle.std.specs.Str.{bytes_eq}
use Rattle.text.specs.Paths.{parent}
use Rattle.region.specs.Tables.{FileEntry}
use Rattle.reading.specs.declared.fault.LineFault.{LineFault}
use Rattle.reading.specs.declared.fault.Refusal.{Refusal}
use Rattle.reading.specs.declared.fault.Refusal.TheVariants.{Given, Unknown, Full}
use Rattle.reading.specs.Reads.{wants, needs, and_then, passed_over, read_text}
use Rattle.listing.specs.declared.files.Files.{Files}
use Rattle.listing.specs.Rows.{file_entry, absent_rows, place_of, stat_at, is_dir, ParentAbove}
use Rattle.listing.specs.Entries.{Listed, row}

abbrev pub files_of : Files → List FileEntry
files_of t = map file_entry t.rows

abbrev pub is_root : List ℕ → Bool
is_root p = bytes_eq p (codes "/")

-- a path is listed already
abbrev pub is_listed : List FileEntry → List ℕ → Bool
is_listed xs p = is_some (option_and_then (stat_at xs) (place_of p xs))

-- the place of the row above a path that is not listed yet, and whose row above is listed as a directory
abbrev pub above_of : List FileEntry → List ℕ → Result ℕ Refusal
above_of xs p =
    needs Given (not (is_listed xs p))
    (wants Unknown (place_of (parent p) xs) (λ a.
    needs Unknown (is_root p || is_dir (stat_at xs a))
    (Ok a)))

-- a row goes to the place of its path, or to the end
abbrev pub put_at : Option ℕ → List FileEntry → FileEntry → Result (List FileEntry) Refusal
put_at (Some i) xs x = Ok (slice_set xs i x)
put_at None xs x = needs Full (nat_lt (length xs) 64) (Ok (xs ++ (x ∷ [])))

abbrev pub put_step : List FileEntry → FileEntry → Result (List FileEntry) Refusal
put_step xs x = put_at (place_of x.path xs) xs x

abbrev pub entry_of : Listed → ℕ → FileEntry
entry_of r a = record { path = r.path; above = a; stat = Some r.stat }

-- the table with one row more that is listed
abbrev pub list_step : List FileEntry → Listed → Result (List FileEntry) Refusal
list_step xs r = and_then (above_of xs r.path) (λ a. put_step xs (entry_of r a))

-- the table after one more line
abbrev pub file_step : List FileEntry → List ℕ → Result (List FileEntry) Refusal
file_step xs l = cond (passed_over l) (Ok xs) (and_then (row l) (λ r. list_step xs r))

-- the table that a text makes, or why it is refused
abbrev pub files_in : List ℕ → Result (List FileEntry) LineFault
files_in bs = read_text file_step absent_rows bs

-- x may be put into a table: its path is not listed, and the row above has the path of its directory and is listed as one
pub record Fitting (xs : List FileEntry) (x : FileEntry) : Type 0 where
  pub unlisted : is_listed xs x.path ≡ false
  pub there : ParentAbove xs x
  pub under : (is_root x.path || is_dir (stat_at xs x.above)) ≡ true
