-- What holds of every table of file rows, and of every listing that is taken. Assumes nothing.
use Rattle.std.specs.Prelude.{◌≡◌, ◌≢◌, ℕ, true, List, is_some, count_by}
use Rattle.region.specs.Tables.{FileEntry}
use Rattle.region.specs.Sound.{Entry}
use Rattle.listing.specs.Rows.{is_dir}

-- the directory above each file that is listed is listed as a directory; the root has none above
abbrev pub DirsAbove : List FileEntry → Type 0
DirsAbove xs = (r : ℕ) (x y : FileEntry) → Entry xs r x → (r ≢ 0) → is_some x.stat ≡ true → Entry xs x.above y → is_dir y.stat ≡ true

-- how many rows are listed
abbrev pub listed_rows : List FileEntry → ℕ
listed_rows xs = count_by (λ x. is_some x.stat) xs
