-- What sound tables give the rules: bounds, and the rows of fixed paths. Assumes nothing.
use Rattle.std.proofs.Common.{◌≡◌, ℕ, ◌<◌, List, Some, codes, sym, refl, ap, ◌∙◌, arith}
use Rattle.std.specs.List.{slice_get}
use Rattle.region.specs.Sound.{Entry, fixed_paths, HostSound, Sound}
use Rattle.region.specs.Tables.{AccountEntry, GroupEntry, FileEntry, HostTables}
use Rattle.region.specs.declared.privilege.Right.TheVariants.{AnyUser, Name, Number, Group, Write, Replace}
use Rattle.allows.specs.Allows.{AnyPrivilege, at, root_anywhere, Live}
use Rattle.allows.proofs.Numbers.{Fits}
use Rattle.allows.proofs.Places.{entry_lt, entry-same, front_entry}

module _ (hs : List HostTables) (sound : Sound hs) (h : ℕ) (t : HostTables) (there : Entry hs h t) where
  pub host_sound : HostSound t
  host_sound = sound.hosts h t there

  pub host-fits : h < 8
  host-fits = let l = entry_lt hs h t there in let m = sound.few in omega arith

  pub account-fits : (i : ℕ) (a : AccountEntry) → Entry t.accounts i a → (h < 8) × (i < 16)
  account-fits i a e = (host-fits, (let l = entry_lt t.accounts i a e in let m = host_sound.accounts.few in omega arith))

  pub group-fits : (j : ℕ) (b : GroupEntry) → Entry t.groups j b → (h < 8) × (j < 16)
  group-fits j b e = (host-fits, (let l = entry_lt t.groups j b e in let m = host_sound.groups.few in omega arith))

  pub row_fits : (r : ℕ) (x : FileEntry) → Entry t.files r x → (h < 8) × (r < 64)
  row_fits r x e = (host-fits, (let l = entry_lt t.files r x e in let m = host_sound.files.few in omega arith))

  -- the row of a fixed path
  pub fixed-row : (r : ℕ) (path : List ℕ) → slice_get fixed_paths r ≡ Some path → (x : FileEntry) × Entry t.files r x × (x.path ≡ path)
  fixed-row r path is = front_entry (λ x. x.path) 11 t.files r path (ap (λ ps. slice_get ps r) host_sound.files.fixed ∙ is)

  -- and no other row has that path
  pub fixed-alone : (r : ℕ) (path : List ℕ) → slice_get fixed_paths r ≡ Some path → (q : ℕ) (x : FileEntry) → Entry t.files q x → x.path ≡ path → q ≡ r
  fixed-alone r path is q x e same = let f = fixed-row r path is in host_sound.files.paths q r x f.0 e f.1 (same ∙ sym f.2)

  -- row 0 and no other is the root
  pub not-root-row : (r : ℕ) (x : FileEntry) → Entry t.files r x → (x.path ≡ codes "/" → ⊥) → r ≡ 0 → ⊥
  not-root-row r x e apart z = let f = fixed-row 0 (codes "/") refl in apart (ap (λ y. y.path) (entry-same t.files r 0 x f.0 e f.1 z) ∙ f.2)

pub live-fits : (hs : List HostTables) → Sound hs → (y : AnyPrivilege) → Live hs y → Fits y
live-fits hs sound root_anywhere l = tt
live-fits hs sound (at h AnyUser) l = (host-fits hs sound h l.0 l.1, tt)
live-fits hs sound (at h (Name i)) l = account-fits hs sound h l.0 l.1 i l.2.0 l.2.1
live-fits hs sound (at h (Number i)) l = account-fits hs sound h l.0 l.1 i l.2.0 l.2.1.there
live-fits hs sound (at h (Group j)) l = group-fits hs sound h l.0 l.1 j l.2.0 l.2.1
live-fits hs sound (at h (Write r)) l = row_fits hs sound h l.0 l.1 r l.2.0 l.2.1
live-fits hs sound (at h (Replace r)) l = row_fits hs sound h l.0 l.1 r l.2.0 l.2.1
