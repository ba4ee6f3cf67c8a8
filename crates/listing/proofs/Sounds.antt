-- A table of file rows is sound. Assumes nothing.
use Rattle.std.proofs.Common.{◌≡◌, ℕ, zero, suc, true, List, [], ◌∷◌, map, Some, None, Option, sym, refl, ap, ◌∙◌}
use Rattle.std.specs.List.{slice_get}
use Rattle.std.specs.Option.{option_map, option_and_then}
use Rattle.std.proofs.lemmas.List.{take-map}
use Rattle.std.proofs.lemmas.Option.{none-some, same_Some, slice_get-map}
use Rattle.text.specs.Paths.{path, parent}
use Rattle.region.specs.Tables.{FileEntry}
use Rattle.region.specs.Sound.{Entry, Above, FilesSound}
use Rattle.listing.specs.declared.files.Files.{Files}
use Rattle.listing.specs.declared.row.FileRow.{FileRow}
use Rattle.listing.specs.Rows.{file_entry, is_dir}
use Rattle.listing.specs.Files.{files_of}
use Rattle.listing.specs.Laws.{DirsAbove}

each_formed : (rs : List FileRow) (i : ℕ) (x : FileEntry) → Entry (map file_entry rs) i x → path x.path ≡ true
each_formed [] i x e = absurd (none-some x e)
each_formed (r ∷ rs) zero x e = ap (λ y. path y.path) (sym (same_Some _ _ e)) ∙ r.path.formed
each_formed (r ∷ rs) (suc i) x e = each_formed rs i x e

-- the entry at a place whose path is known
above_from : (xs : List FileEntry) (x : FileEntry) (o : Option FileEntry) → slice_get xs x.above ≡ o → option_map (λ y. y.path) o ≡ Some (parent x.path) → Above xs x
above_from xs x None e h = absurd (none-some _ h)
above_from xs x (Some y) e h = record { row = y; there = e; holds = same_Some _ _ h }

path_at : (xs : List FileEntry) (i : ℕ) (x : FileEntry) → Entry xs i x → Entry (map (λ y. y.path) xs) i x.path
path_at xs i x e = slice_get-map (λ y. y.path) xs i ∙ ap (option_map (λ y. y.path)) e

pub files_sound : (t : Files) → FilesSound (files_of t)
files_sound t = record {
  few = t.few;
  fixed = sym (take-map (λ x. x.path) 11 (files_of t)) ∙ t.fixed;
  formed = each_formed t.rows;
  paths = λ i j x y e f same. same_Some i j (sym (t.once i x.path (path_at (files_of t) i x e)) ∙ t.once j x.path (path_at (files_of t) j y f ∙ ap Some (sym same)));
  above = λ r x e _. above_from (files_of t) x (slice_get (files_of t) x.above) refl (sym (slice_get-map (λ y. y.path) (files_of t) x.above) ∙ t.parents r x e);
}

pub dirs_above : (t : Files) → DirsAbove (files_of t)
dirs_above t r x y e other listed up = ap (λ o. is_dir (option_and_then (λ z. z.stat) o)) (sym up) ∙ t.under r x e other listed
