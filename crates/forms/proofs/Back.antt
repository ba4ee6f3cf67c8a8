-- A form tells its privilege: its words lead back. Assumes nothing.
use Rattle.std.proofs.Common.{◌≡◌, ℕ, ◌-◌, ◌≤◌, false, cond, eqb, List, [], ◌∷◌, ◌++◌, length, get_or, Some, None, codes, decimal, Option, sym, refl, ap, ◌∙◌, arith}
use mathlib.Core.List.{append_cancel_right}
use Rattle.std.specs.List.{slice_get, position}
use Rattle.std.specs.Option.{unwrap_or}
use Rattle.std.specs.Str.{bytes_eq}
use Rattle.std.proofs.lemmas.Slice.Eq.{bytes_eq-Decides}
use Rattle.std.proofs.lemmas.Bool.{or_parts}
use Rattle.region.specs.Sound.{Entry, Distinct, OwnName, HostSound, Sound}
use Rattle.region.specs.Tables.{AccountEntry, GroupEntry, FileEntry, HostTables}
use Rattle.region.specs.declared.privilege.Right.{Right}
use Rattle.region.specs.declared.privilege.Right.TheVariants.{AnyUser, Name, Number, Group, Write, Replace}
use Rattle.allows.specs.Allows.{AnyPrivilege, at, root_anywhere, Has, Live}
use Rattle.allows.proofs.Places.{place-alone}
use Rattle.forms.specs.Forms.{root_form}
use Rattle.forms.specs.Printed.{printed, right_form}
use Rattle.forms.proofs.Visible.{Solid, solid_piece, solid_name, solid_path}
use Rattle.forms.proofs.Words.{split, name-words, number-words, group-words, write_words, replace_words}

abbrev bracketed : List ℕ → List ℕ
bracketed n = 40 ∷ (n ++ 41 ∷ [])

abbrev word : List (List ℕ) → ℕ → List ℕ
word ws k = get_or ws k []

-- the entry whose key is this word
module _ {X : Type 0} (key : X → List ℕ) where
  abbrev find : List X → List ℕ → ℕ
  find xs w = unwrap_or (position (λ x. bytes_eq (key x) w) xs) 0

  own-place : (xs : List X) → Distinct key xs → (i : ℕ) (x : X) → Entry xs i x → position (λ y. bytes_eq (key y) (key x)) xs ≡ Some i
  own-place xs apart i x is = place-alone (λ y. bytes_eq (key y) (key x)) key (key x) (λ y e. (bytes_eq-Decides (key y) (key x)).0 e) xs apart i x is ((bytes_eq-Decides (key x) (key x)).1 refl)

  own : (xs : List X) → Distinct key xs → (i : ℕ) (x : X) → Entry xs i x → find xs (key x) ≡ i
  own xs apart i x is = ap (λ o. unwrap_or o 0) (own-place xs apart i x is)

-- names apart stay apart in brackets
brackets : {X : Type 0} (key : X → List ℕ) (xs : List X) → Distinct key xs → Distinct (λ x. bracketed (key x)) xs
brackets key xs apart i j x y a b e = apart i j x y a b (append_cancel_right (key x) (key y) (41 ∷ []) (cc))

-- the right at a host, by the words of its form: how many they are, and for files the first
abbrev right_back : HostTables → List (List ℕ) → Right
right_back t ws =
    cond (eqb (length ws) 6) (cond (bytes_eq (word ws 3) (codes "any")) AnyUser (Name (find (λ a. a.name) t.accounts (word ws 3))))
    (cond (eqb (length ws) 7) (Number (find (λ a. bracketed a.name) t.accounts (word ws 4)))
    (cond (eqb (length ws) 8) (Group (find (λ b. bracketed b.name) t.groups (word ws 5)))
    (cond (bytes_eq (word ws 0) (codes "Write")) (Write (find (λ x. x.path) t.files (word ws 2))) (Replace (find (λ x. x.path) t.files (word ws 2))))))

abbrev last_word : List (List ℕ) → List ℕ
last_word ws = word ws (length ws - 1)

abbrev host_back : ℕ → List (List ℕ) → Option HostTables → AnyPrivilege
host_back h ws None = root_anywhere
host_back h ws (Some t) = at h (right_back t ws)

abbrev back : List HostTables → List (List ℕ) → AnyPrivilege
back hs ws = cond (bytes_eq (last_word ws) (codes "any")) root_anywhere (host_back (find (λ t. t.name) hs (last_word ws)) ws (slice_get hs (find (λ t. t.name) hs (last_word ws))))

-- what a privilege prints, and the words of that
abbrev pub form : List HostTables → AnyPrivilege → List ℕ
form hs (at h w) = printed (slice_get hs h) (λ t. right_form t w)
form hs root_anywhere = root_form

abbrev words-at : (t : HostTables) (w : Right) → Has t w → List (List ℕ)
words-at t AnyUser has = codes "Become" ∷ codes "user" ∷ codes "named" ∷ codes "any" ∷ codes "at" ∷ t.name ∷ []
words-at t (Name i) has = codes "Become" ∷ codes "user" ∷ codes "named" ∷ has.0.name ∷ codes "at" ∷ t.name ∷ []
words-at t (Number i) has = codes "Become" ∷ codes "user" ∷ codes "number" ∷ decimal has.0.number ∷ bracketed has.0.name ∷ codes "at" ∷ t.name ∷ []
words-at t (Group j) has = codes "Become" ∷ codes "member" ∷ codes "of" ∷ codes "group" ∷ decimal has.0.number ∷ bracketed has.0.name ∷ codes "at" ∷ t.name ∷ []
words-at t (Write r) has = codes "Write" ∷ codes "file" ∷ has.0.path ∷ codes "at" ∷ t.name ∷ []
words-at t (Replace r) has = codes "Replace" ∷ codes "file" ∷ has.0.path ∷ codes "at" ∷ t.name ∷ []

-- a name that is free is told from `any`
other : (n : List ℕ) → OwnName n → bytes_eq n (codes "any") ≡ false
other n own = (or_parts (bytes_eq n (codes "any")) (bytes_eq n (codes "all")) own.free).0

-- what holds of the entries of a host
module _ (t : HostTables) (sound : HostSound t) where
  pub solid-host : Solid t.name
  solid-host = solid_name t.name sound.named.formed

  module _ (i : ℕ) (a : AccountEntry) (is : Entry t.accounts i a) where
    pub account-named : OwnName a.name
    account-named = (sound.accounts.formed i a is).named

    pub account-numbered : a.number ≤ 4294967294
    account-numbered = (sound.accounts.formed i a is).numbered

    pub solid-account : Solid a.name
    solid-account = solid_name a.name account-named.formed

  module _ (j : ℕ) (b : GroupEntry) (is : Entry t.groups j b) where
    pub group-named : OwnName b.name
    group-named = (sound.groups.formed j b is).named

    pub group-numbered : b.number ≤ 4294967294
    group-numbered = (sound.groups.formed j b is).numbered

    pub solid-group : Solid b.name
    solid-group = solid_name b.name group-named.formed

  pub solid-file : (r : ℕ) (x : FileEntry) → Entry t.files r x → Solid x.path
  solid-file r x is = solid_path x.path (sound.files.formed r x is)

  words_of : (w : Right) (has : Has t w) → split (right_form t w) ≡ words-at t w has
  words_of AnyUser has = name-words (codes "any") t.name (solid_piece (codes "any") refl) solid-host
  words_of (Name i) has = rw has.1 (name-words has.0.name t.name (solid-account i has.0 has.1) solid-host)
  words_of (Number i) has =
      let n = account-numbered i has.0 has.1.there in
      rw has.1.there (number-words has.0.number has.0.name t.name (omega arith) (solid-account i has.0 has.1.there) solid-host)
  words_of (Group j) has =
      let n = group-numbered j has.0 has.1 in
      rw has.1 (group-words has.0.number has.0.name t.name (omega arith) (solid-group j has.0 has.1) solid-host)
  words_of (Write r) has = rw has.1 (write_words has.0.path t.name (solid-file r has.0 has.1) solid-host)
  words_of (Replace r) has = rw has.1 (replace_words has.0.path t.name (solid-file r has.0 has.1) solid-host)

  told_at : (w : Right) (has : Has t w) → right_back t (words-at t w has) ≡ w
  told_at AnyUser has = refl
  told_at (Name i) has = rw (other has.0.name (account-named i has.0 has.1)) (ap Name (own (λ a. a.name) t.accounts sound.accounts.names i has.0 has.1))
  told_at (Number i) has = ap Number (own (λ a. bracketed a.name) t.accounts (brackets (λ a. a.name) t.accounts sound.accounts.names) i has.0 has.1.there)
  told_at (Group j) has = ap Group (own (λ b. bracketed b.name) t.groups (brackets (λ b. b.name) t.groups sound.groups.names) j has.0 has.1)
  told_at (Write r) has = ap Write (own (λ x. x.path) t.files sound.files.paths r has.0 has.1)
  told_at (Replace r) has = ap Replace (own (λ x. x.path) t.files sound.files.paths r has.0 has.1)

  host-told : (w : Right) (has : Has t w) → last_word (words-at t w has) ≡ t.name
  host-told AnyUser has = refl
  host-told (Name i) has = refl
  host-told (Number i) has = refl
  host-told (Group j) has = refl
  host-told (Write r) has = refl
  host-told (Replace r) has = refl

-- the words of a form lead back to its privilege
told : (hs : List HostTables) → Sound hs → (y : AnyPrivilege) → Live hs y → back hs (split (form hs y)) ≡ y
told hs sound root_anywhere l = refl
told hs sound (at h w) l =
    let t : HostTables = l.0 in
    let k : HostSound t = sound.hosts h t l.1 in
    rw (l.1, words_of t k w l.2, host-told t k w l.2, other t.name k.named, own (λ x. x.name) hs sound.names h t l.1, l.1) (ap (at h) (told_at t k w l.2))

pub never_alike : (hs : List HostTables) → Sound hs → (x y : AnyPrivilege) → Live hs x → Live hs y → form hs x ≡ form hs y → x ≡ y
never_alike hs sound x y l m e = sym (told hs sound x l) ∙ ap (λ b. back hs (split b)) e ∙ told hs sound y m
