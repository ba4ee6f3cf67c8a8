-- What a rule allows, a slot holds: one clause for each rule. Assumes nothing.
use Rattle.std.proofs.Common.{◌≡◌, ℕ, ◌+◌, ◌-◌, ◌*◌, ◌/◌, ◌%◌, ◌<◌, Bool, false, cond, eqb, List, Some, codes, position, Decides, sym, refl, ap, ◌∙◌, subst, ⊎_elim, arith}
use Rattle.std.specs.List.{slice_get}
use Rattle.std.specs.Str.{bytes_eq}
use Rattle.std.proofs.lemmas.Slice.Eq.{bytes_eq-Decides}
use Rattle.std.proofs.lemmas.Bool.{cond-true, cond-false, ne_eqb, eq-eqb, eqb-true, cases_Bool}
use Rattle.text.specs.Bytes.{and_then}
use Rattle.region.specs.Sound.{Entry, fixed_paths, Sound}
use Rattle.region.specs.Tables.{AccountEntry, FileEntry, HostTables}
use Rattle.region.specs.declared.privilege.Right.{Right}
use Rattle.region.specs.declared.privilege.Right.TheVariants.{AnyUser, Name, Number, Group, Write, Replace}
use Rattle.allows.specs.Allows.{AnyPrivilege, at, number_of, HomeFile, MapFile, Has, Live, Allows, directory_above, writing, owner, group_bit, any_user_bit, number_to_name, name_to_number, passwd_file, passwd_map, equiv_line, rhosts_line, rhosts_file, cshrc_file, login_file, profile_file, equiv_file, crontab_file, aliases_file, rc_file, rc_local_file, group_file, group_map, member, some_number, root_by_name}
use Rattle.allows.specs.Live.{numbered}
use Rattle.allows.specs.Paths.{nis_map}
use Rattle.allows.specs.Slots.{Slot, grant, only_if, row_of, by_number, by_nis_map, by_trust, number_slot, belongs, by_member, group_slot, right_slot}
use Rattle.allows.specs.Trust.{trusting_rule, home_row}
use Rattle.allows.proofs.Bounds.{host_sound, account-fits, host-fits, fixed-alone, not-root-row}
use Rattle.allows.proofs.Numbers.{slots, has_decides, numbered-first}
use Rattle.allows.proofs.Places.{entry-same, place-alone}
use Rattle.allows.proofs.Tests.{home_out, belongs_decides, equiv_decides, rhosts-decides}

not_so : {P : Type 0} {b : Bool} → Decides b P → (P → ⊥) → b ≡ false
not_so {b = b} d n = ⊎_elim (λ t. absurd (n (d.0 t))) (λ f. f) (cases_Bool b)

past : (k n : ℕ) (s r : Slot) → n < k → cond (eqb k n) s r ≡ r
past k n s r lt = cond-false (eqb k n) s r (ne_eqb k n (λ e. omega arith))

-- some slot of y holds x and the rule u
pub record Filled (hs : List HostTables) (x : AnyPrivilege) (u : ℕ) (y : AnyPrivilege) : Type 0 where
  pub slot : ℕ
  pub inside : slot < 140
  pub holds : slots hs y slot ≡ Some (number_of x, u)

module _ (hs : List HostTables) (sound : Sound hs) where
  in-slot : {x : AnyPrivilege} {u : ℕ} {y : AnyPrivilege} (k : ℕ) → k < 140 → slots hs y k ≡ Some (number_of x, u) → Filled hs x u y
  in-slot k lt e = record { slot = k; inside = lt; holds = e }

  has_here : (h : ℕ) (t : HostTables) (w : Right) → Entry hs h t → Live hs (at h w) → Has t w
  has_here h t w there l = subst (λ z. Has z w) (entry-same hs h h l.0 t l.1 there refl) l.2

  module _ (h : ℕ) (t : HostTables) (there : Entry hs h t) where
    number-out : (i : ℕ) (a : AccountEntry) (n v : ℕ) → Entry t.accounts i a → a.number ≡ n → Live hs (at h (Number i)) → by_number t h n v ≡ grant h (Number i) v
    number-out i a n v is same live =
        let f = has_here h t (Number i) there live in
        let w : f.0 ≡ a = entry-same t.accounts i i f.0 a f.1.there is refl in
        ap (λ o. and_then o (λ j. grant h (Number j) v)) (ap (λ m. numbered m t.accounts) (sym same ∙ ap (λ (z : AccountEntry). z.number) (sym w)) ∙ numbered-first t i f.0 f.1)

    home-out-at : (a : AccountEntry) (file : List ℕ) (r : ℕ) (x : FileEntry) (f : ℕ → Slot) → HomeFile t a file r x → and_then (home_row t a file) f ≡ f r
    home-out-at a file r x f is = ap (λ o. and_then o f) (home_out t a file (host_sound hs sound h t there).files.paths r x is)

    fixed_out : (q : ℕ) (path : List ℕ) (v : ℕ) → slice_get fixed_paths q ≡ Some path → (r : ℕ) (x : FileEntry) → Entry t.files r x → x.path ≡ path → grant h (Replace q) v ≡ grant h (Replace r) v
    fixed_out q path v is r x e same = ap (λ z. grant h (Replace z) v) (sym (fixed-alone hs sound h t there q path is r x e same))

    map-out : (file : List ℕ) (v n r : ℕ) (x : FileEntry) → MapFile hs t file n r x → by_nis_map hs t file v ≡ grant n (Replace r) v
    map-out file v n r x f =
        let d = f.domain in
        let serv : Entry hs d.server f.server = subst (λ z. Entry hs z f.server) f.at_server f.host in
        ap (λ o. and_then o (λ d. and_then (slice_get hs d.server) (λ s. and_then (row_of s (nis_map d.name file)) (λ r. grant d.server (Replace r) v)))) f.of_host
        ∙ ap (λ o. and_then o (λ s. and_then (row_of s (nis_map d.name file)) (λ r. grant d.server (Replace r) v))) serv
        ∙ ap (λ o. and_then o (λ r. grant d.server (Replace r) v))
        (place-alone (λ x. bytes_eq x.path (nis_map d.name file)) (λ x. x.path) (nis_map d.name file) (λ y q. (bytes_eq-Decides _ _).0 q) f.server.files
        (sound.hosts n f.server f.host).files.paths r x f.row ((bytes_eq-Decides _ _).1 f.path))
        ∙ ap (λ z. grant z (Replace r) v) (sym f.at_server)

    trust-out : (i : ℕ) (a : AccountEntry) (n j : ℕ) (s : HostTables) (b : AccountEntry) (v : ℕ) → Entry t.accounts i a → Entry hs n s → Entry s.accounts j b → trusting_rule t i a s b ≡ Some v → Filled hs (at n (Name j)) v (at h (Number i))
    trust-out i a n j s b v is at_n has by =
        let f = account-fits hs sound n s at_n j b has in
        let k : ℕ = 12 + (16 * n + j) in
        let d : ((12 + (16 * n + j)) - 12) / 16 ≡ n = omega arith in
        let m : ((12 + (16 * n + j)) - 12) % 16 ≡ j = omega arith in
        in-slot (12 + (16 * n + j)) (omega arith)
        (ap (λ o. and_then o (λ t. right_slot hs t h (Number i) k)) there
        ∙ ap (λ o. and_then o (λ a. number_slot hs t h i a k)) is
        ∙ past k 0 _ _ (omega arith) ∙ past k 1 _ _ (omega arith) ∙ past k 2 _ _ (omega arith) ∙ past k 3 _ _ (omega arith) ∙ past k 4 _ _ (omega arith) ∙ past k 5 _ _ (omega arith)
        ∙ past k 6 _ _ (omega arith) ∙ past k 7 _ _ (omega arith) ∙ past k 8 _ _ (omega arith) ∙ past k 9 _ _ (omega arith) ∙ past k 10 _ _ (omega arith) ∙ past k 11 _ _ (omega arith)
        ∙ ap (λ z. by_trust hs t i a z ((k - 12) % 16)) d ∙ ap (by_trust hs t i a n) m
        ∙ ap (λ o. and_then o (λ s. and_then (slice_get s.accounts j) (λ b. and_then (trusting_rule t i a s b) (λ u. grant n (Name j) u)))) at_n
        ∙ ap (λ o. and_then o (λ b. and_then (trusting_rule t i a s b) (λ u. grant n (Name j) u))) has
        ∙ ap (λ o. and_then o (λ u. grant n (Name j) u)) by)

  pub allowed-slot : {x y : AnyPrivilege} {u : ℕ} → Allows hs x u y → Live hs x → Filled hs x u y
  allowed-slot (directory_above {h = h} {t = t} {r = r} {q = q} {x = x} {y = y} there is apart has same) l =
      let n = not-root-row hs sound h t there r x is apart in
      let above = (host_sound hs sound h t there).files.above r x is n in
      let e : x.above ≡ q = (host_sound hs sound h t there).files.paths x.above q above.row y above.there has (above.holds ∙ sym same) in
      in-slot 0 (omega arith) (rw (there, is, ne_eqb r 0 n) (ap (λ z. grant h (Replace z) 1) e))
  allowed-slot (writing there is) l = in-slot 1 (omega arith) (rw (there, is) refl)
  allowed-slot (owner {h = h} {t = t} {i = i} {s = s} {a = a} there is stat ac same) l = in-slot 0 (omega arith) (rw (there, is, stat) (number-out h t there i a s.owner 3 ac same l))
  allowed-slot (group_bit {h = h} {t = t} {j = j} {s = s} {b = b} there is stat mode has same) l =
      in-slot 1 (omega arith) (rw (there, is, stat, ne_eqb _ 0 mode) (ap (λ o. and_then o (λ j. grant h (Group j) 4))
      (place-alone (λ b. eqb b.number s.group) (λ b. b.number) s.group (λ c q. eqb-true _ _ q) t.groups (host_sound hs sound h t there).groups.numbers j b has (eq-eqb _ _ same))))
  allowed-slot (any_user_bit there is stat mode) l = in-slot 2 (omega arith) (rw (there, is, stat, ne_eqb _ 0 mode) refl)
  allowed-slot (number_to_name {h = h} {t = t} {j = j} {a = a} {b = b} there is ac same) l = in-slot 0 (omega arith) (rw (there, is) (number-out h t there j b a.number 6 ac same l))
  allowed-slot (name_to_number there is) l = in-slot 0 (omega arith) (rw (there, is) refl)
  allowed-slot (passwd_file {h = h} {t = t} {r = r} {x = x} there is row path) l = in-slot 1 (omega arith) (rw (there, is) (fixed_out h t there 2 (codes "/etc/passwd") 8 refl r x row path))
  allowed-slot (passwd_map {h = h} {t = t} {n = n} {r = r} {x = x} there is f) l = in-slot 2 (omega arith) (rw (there, is) (map-out h t there (codes "/passwd.byuid.pag") 9 n r x f))
  allowed-slot (equiv_line {h = h} {t = t} {i = i} {n = n} {j = j} {s = s} {a = a} {b = b} there is at_n has by) l = trust-out h t there i a n j s b 10 is at_n has (cond-true _ _ _ ((equiv_decides t a s b).1 by))
  allowed-slot (rhosts_line {h = h} {t = t} {i = i} {n = n} {j = j} {s = s} {a = a} {b = b} there is at_n has equiv by) l =
      trust-out h t there i a n j s b 11 is at_n has (cond-false _ _ _ (not_so (equiv_decides t a s b) equiv) ∙ cond-true _ _ _ ((rhosts-decides t a (host_sound hs sound h t there).files.paths i s b).1 by))
  allowed-slot (rhosts_file {h = h} {t = t} {r = r} {a = a} {x = x} there is f) l = in-slot 3 (omega arith) (rw (there, is) (home-out-at h t there a (codes "/.rhosts") r x (λ r. grant h (Write r) 12) f))
  allowed-slot (cshrc_file {h = h} {t = t} {r = r} {a = a} {x = x} there is f) l = in-slot 4 (omega arith) (rw (there, is) (home-out-at h t there a (codes "/.cshrc") r x (λ r. grant h (Replace r) 13) f))
  allowed-slot (login_file {h = h} {t = t} {r = r} {a = a} {x = x} there is f) l = in-slot 5 (omega arith) (rw (there, is) (home-out-at h t there a (codes "/.login") r x (λ r. grant h (Replace r) 14) f))
  allowed-slot (profile_file {h = h} {t = t} {r = r} {a = a} {x = x} there is f) l = in-slot 6 (omega arith) (rw (there, is) (home-out-at h t there a (codes "/.profile") r x (λ r. grant h (Replace r) 15) f))
  allowed-slot (equiv_file {h = h} {t = t} {r = r} {x = x} there is z row path) l = in-slot 7 (omega arith) (rw (there, is, ne_eqb _ 0 z) (fixed_out h t there 4 (codes "/etc/hosts.equiv") 16 refl r x row path))
  allowed-slot (crontab_file {h = h} {t = t} {r = r} {x = x} there is z row path) l = in-slot 8 (omega arith) (rw (there, is, eq-eqb _ 0 z) (fixed_out h t there 9 (codes "/usr/lib/crontab") 17 refl r x row path))
  allowed-slot (aliases_file {h = h} {t = t} {r = r} {x = x} there is z row path) l = in-slot 9 (omega arith) (rw (there, is, eq-eqb _ 0 z) (fixed_out h t there 10 (codes "/usr/lib/aliases") 18 refl r x row path))
  allowed-slot (rc_file {h = h} {t = t} {r = r} {x = x} there is z row path) l = in-slot 10 (omega arith) (rw (there, is, eq-eqb _ 0 z) (fixed_out h t there 5 (codes "/etc/rc") 19 refl r x row path))
  allowed-slot (rc_local_file {h = h} {t = t} {r = r} {x = x} there is z row path) l = in-slot 11 (omega arith) (rw (there, is, eq-eqb _ 0 z) (fixed_out h t there 6 (codes "/etc/rc.local") 20 refl r x row path))
  allowed-slot (group_file {h = h} {t = t} {r = r} {x = x} there is row path) l = in-slot 0 (omega arith) (rw (there, is) (fixed_out h t there 3 (codes "/etc/group") 21 refl r x row path))
  allowed-slot (group_map {h = h} {t = t} {n = n} {r = r} {x = x} there is f) l = in-slot 1 (omega arith) (rw (there, is) (map-out h t there (codes "/group.bygid.pag") 22 n r x f))
  allowed-slot (member {h = h} {t = t} {j = j} {f = f} i {b = b} {a = a} {c = c} there is has m ac same) l =
      let q = account-fits hs sound h t there i a has in
      let z : (2 + i) - 2 ≡ i = omega arith in
      in-slot (2 + i) (omega arith)
      (ap (λ o. and_then o (λ t. right_slot hs t h (Group j) (2 + i))) there
      ∙ ap (λ o. and_then o (λ b. group_slot hs t h b (2 + i))) is
      ∙ past (2 + i) 0 _ _ (omega arith) ∙ past (2 + i) 1 _ _ (omega arith)
      ∙ ap (by_member t h b) z
      ∙ ap (λ o. and_then o (λ a. only_if (belongs b i a) (by_number t h a.number 23))) has
      ∙ cond-true _ _ _ ((belongs_decides b i a).1 m)
      ∙ number-out h t there f c a.number 23 ac same l)
  allowed-slot (some_number {h = h} {t = t} {i = i} {a = a} there is) l =
      let q = account-fits hs sound h t there i a is in
      in-slot i (omega arith) (ap (λ o. and_then o (λ t. right_slot hs t h AnyUser i)) there ∙ cond-true _ _ _ ((has_decides t (Number i)).1 (has_here h t (Number i) there l)))
  allowed-slot (root_by_name {h = h} {t = t} {i = i} {a = a} there is name) l =
      let q = host-fits hs sound h t there in
      in-slot h (omega arith)
      (ap (λ o. and_then o (λ t. and_then (position (λ a. bytes_eq a.name (codes "root")) t.accounts) (λ i. grant h (Name i) 25))) there
      ∙ ap (λ o. and_then o (λ i. grant h (Name i) 25))
      (place-alone (λ a. bytes_eq a.name (codes "root")) (λ a. a.name) (codes "root") (λ b p. (bytes_eq-Decides _ _).0 p) t.accounts (host_sound hs sound h t there).accounts.names i a is ((bytes_eq-Decides _ _).1 name)))
