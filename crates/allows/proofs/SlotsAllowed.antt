-- What a slot holds, a rule allows: rule by rule, and then kind by kind. Assumes nothing.
use Rattle.std.proofs.Common.{◌≡◌, ℕ, ◌-◌, ◌/◌, ◌%◌, not, eqb, List, Some, codes, position, refl, ap, ◌∙◌, subst}
use lib.Bits.{bit_and}
use Rattle.std.specs.List.{slice_get}
use Rattle.std.specs.Str.{bytes_eq}
use Rattle.std.proofs.lemmas.Slice.Eq.{bytes_eq-Decides}
use Rattle.std.proofs.lemmas.Bool.{eqb-true, eqb-false, not-true}
use Rattle.std.proofs.lemmas.Bool.Decides.{not_from_Decides}
use Rattle.region.specs.Sound.{Entry, fixed_paths, Sound}
use Rattle.region.specs.Tables.{AccountEntry, GroupEntry, Stat, FileEntry, HostTables}
use Rattle.region.specs.declared.privilege.Right.{Right}
use Rattle.region.specs.declared.privilege.Right.TheVariants.{AnyUser, Name, Number, Group, Write, Replace}
use Rattle.allows.specs.Allows.{AnyPrivilege, at, root_anywhere, number_of, HomeFile, MapFile, Allows, directory_above, writing, owner, group_bit, any_user_bit, number_to_name, name_to_number, passwd_file, passwd_map, equiv_line, rhosts_line, rhosts_file, cshrc_file, login_file, profile_file, equiv_file, crontab_file, aliases_file, rc_file, rc_local_file, group_file, group_map, member, some_number, root_by_name}
use Rattle.allows.specs.Live.{numbered, is_first}
use Rattle.allows.specs.Paths.{nis_map}
use Rattle.allows.specs.Slots.{Slot, grant, row_of, by_number, by_home_file, by_nis_map, by_directory_above, replace_slot, by_file_group, by_anyone, write_slot, name_slot, by_rhosts_file, by_equiv_file, by_root_file, by_trust, number_slot, by_member, group_slot, any_slot, root_slot, right_slot}
use Rattle.allows.specs.Trust.{trusting_rule, by_rhosts}
use Rattle.allows.proofs.Bounds.{host_sound, host-fits, account-fits, group-fits, row_fits, fixed-row, fixed-alone}
use Rattle.allows.proofs.Numbers.{Fits, slots, has_decides}
use Rattle.allows.proofs.Places.{split, only, via, place_in}
use Rattle.allows.proofs.Tests.{home-in, belongs_decides, equiv_decides, rhosts-decides}

-- a privilege that is numbered p grants y by rule u
pub record Found (hs : List HostTables) (p u : ℕ) (y : AnyPrivilege) : Type 0 where
  pub giver : AnyPrivilege
  pub rule : Allows hs giver u y
  pub fits : Fits giver
  pub is : number_of giver ≡ p

module _ (hs : List HostTables) (sound : Sound hs) (p u : ℕ) where
  abbrev Filled : Slot → Type 0
  Filled s = s ≡ Some (p, u)

  found : {y : AnyPrivilege} (x : AnyPrivilege) (v : ℕ) → Allows hs x v y → Fits x → Filled (Some (number_of x, v)) → Found hs p u y
  found {y = y} x v al f e =
      let w : ◌≡◌ {A = ℕ × ℕ} (number_of x, v) (p, u) = cc in
      record { giver = x; rule = subst (λ n. Allows hs x n y) (ap (λ z. z.1) w) al; fits = f; is = ap (λ z. z.0) w }

  module _ (h : ℕ) (t : HostTables) (there : Entry hs h t) where
    -- by a number, by a file in a home, by a map: what the rule needs is handed on
    number-found : {y : AnyPrivilege} (n v : ℕ) → Filled (by_number t h n v) → ((i : ℕ) (a : AccountEntry) → Entry t.accounts i a → a.number ≡ n → Allows hs (at h (Number i)) v y) → Found hs p u y
    number-found n v e rule = via (numbered n t.accounts) _ _ e (λ i at_i e.
        let f = place_in (λ a. eqb a.number n) t.accounts i at_i in
        found (at h (Number i)) v (rule i f.entry f.there (eqb-true _ n f.passes)) (account-fits hs sound h t there i f.entry f.there) e)

    home_found : {y : AnyPrivilege} (a : AccountEntry) (file : List ℕ) (v : ℕ) → Filled (by_home_file t h a file v) → ((r : ℕ) (x : FileEntry) → HomeFile t a file r x → Allows hs (at h (Replace r)) v y) → Found hs p u y
    home_found a file v e rule = via _ _ _ e (λ r at-r e. let f = home-in t a file r at-r in found (at h (Replace r)) v (rule r f.0 f.1) (row_fits hs sound h t there r f.0 f.1.row) e)

    map_found : {y : AnyPrivilege} (file : List ℕ) (v : ℕ) → Filled (by_nis_map hs t file v) → ((n r : ℕ) (x : FileEntry) → MapFile hs t file n r x → Allows hs (at n (Replace r)) v y) → Found hs p u y
    map_found file v e rule = via t.domain _ _ e (λ d dom e. via (slice_get hs d.server) _ _ e (λ s serv e. via (row_of s (nis_map d.name file)) _ _ e (λ r at-r e.
        let f = place_in (λ x. bytes_eq x.path (nis_map d.name file)) s.files r at-r in
        found (at d.server (Replace r)) v
        (rule d.server r f.entry (record { domain = d; of_host = dom; at_server = refl; server = s; host = serv; row = f.there; path = (bytes_eq-Decides _ _).0 f.passes }))
        (row_fits hs sound d.server s serv r f.entry f.there) e)))

    -- by a file of a fixed path
    fixed-found : {y : AnyPrivilege} (r : ℕ) (path : List ℕ) (v : ℕ) → slice_get fixed_paths r ≡ Some path → Filled (grant h (Replace r) v) → ((x : FileEntry) → Entry t.files r x → x.path ≡ path → Allows hs (at h (Replace r)) v y) → Found hs p u y
    fixed-found r path v is e rule = let f = fixed-row hs sound h t there r path is in found (at h (Replace r)) v (rule f.0 f.1 f.2) (row_fits hs sound h t there r f.0 f.1) e

    module _ (r : ℕ) (x : FileEntry) (is : Entry t.files r x) where
      rule-1 : Filled (by_directory_above h r x) → Found hs p u (at h (Replace r))
      rule-1 e = only (not (eqb r 0)) _ _ e (λ b e.
          let n = eqb-false r 0 (not-true _ b) in
          let above = (host_sound hs sound h t there).files.above r x is n in
          found (at h (Replace x.above)) 1
          (directory_above there is (λ q. n (fixed-alone hs sound h t there 0 (codes "/") refl r x is q)) above.there above.holds)
          (row_fits hs sound h t there x.above above.row above.there) e)

      rule-2 : Filled (grant h (Write r) 2) → Found hs p u (at h (Replace r))
      rule-2 e = found (at h (Write r)) 2 (writing there is) (row_fits hs sound h t there r x is) e

      of-replace : (k : ℕ) → Filled (replace_slot h r x k) → Found hs p u (at h (Replace r))
      of-replace k e = split (eqb k 0) _ _ _ e (λ _. rule-1) (λ _ e. only (eqb k 1) _ _ e (λ _. rule-2))

      module _ (s : Stat) (stat : x.stat ≡ Some s) where
        rule-3 : Filled (by_number t h s.owner 3) → Found hs p u (at h (Write r))
        rule-3 e = number-found s.owner 3 e (λ i a. owner there is stat)

        rule-4 : Filled (by_file_group t h s) → Found hs p u (at h (Write r))
        rule-4 e = only (not (eqb (bit_and s.mode 0o20) 0)) _ _ e (λ m e. via (position (λ b. eqb b.number s.group) t.groups) _ _ e (λ j at_j e.
            let f = place_in (λ b. eqb b.number s.group) t.groups j at_j in
            found (at h (Group j)) 4 (group_bit there is stat (eqb-false _ 0 (not-true _ m)) f.there (eqb-true _ _ f.passes)) (group-fits hs sound h t there j f.entry f.there) e))

        rule-5 : Filled (by_anyone h s) → Found hs p u (at h (Write r))
        rule-5 e = only (not (eqb (bit_and s.mode 0o2) 0)) _ _ e (λ m e. found (at h AnyUser) 5 (any_user_bit there is stat (eqb-false _ 0 (not-true _ m))) (host-fits hs sound h t there, tt) e)

        of-write : (k : ℕ) → Filled (write_slot t h s k) → Found hs p u (at h (Write r))
        of-write k e = split (eqb k 0) _ _ _ e (λ _. rule-3) (λ _ e. split (eqb k 1) _ _ _ e (λ _. rule-4) (λ _ e. only (eqb k 2) _ _ e (λ _. rule-5)))

    module _ (i : ℕ) (a : AccountEntry) (is : Entry t.accounts i a) where
      rule-6 : Filled (by_number t h a.number 6) → Found hs p u (at h (Name i))
      rule-6 e = number-found a.number 6 e (λ j b. number_to_name there is)

      of-name : (k : ℕ) → Filled (name_slot t h a k) → Found hs p u (at h (Name i))
      of-name k e = only (eqb k 0) _ _ e (λ _. rule-6)

      abbrev Mine : Type 0
      Mine = Found hs p u (at h (Number i))

      rule-7 : Filled (grant h (Name i) 7) → Mine
      rule-7 e = found (at h (Name i)) 7 (name_to_number there is) (account-fits hs sound h t there i a is) e

      rule-8 : Filled (grant h (Replace 2) 8) → Mine
      rule-8 e = fixed-found 2 (codes "/etc/passwd") 8 refl e (λ x. passwd_file there is)

      rule-9 : Filled (by_nis_map hs t (codes "/passwd.byuid.pag") 9) → Mine
      rule-9 e = map_found (codes "/passwd.byuid.pag") 9 e (λ n r x. passwd_map there is)

      rules-10-and-11 : (n j : ℕ) → Filled (by_trust hs t i a n j) → Mine
      rules-10-and-11 n j e = via (slice_get hs n) _ _ e (λ s at_n e. via (slice_get s.accounts j) _ _ e (λ b has e. via (trusting_rule t i a s b) _ _ e (λ v by e. split _ _ _ _ by
          (λ c q. let w : 10 ≡ v = cc in found (at n (Name j)) 10 (equiv_line there is at_n has ((equiv_decides t a s b).0 c)) (account-fits hs sound n s at_n j b has) (ap (λ z. grant n (Name j) z) w ∙ e))
          (λ c q. only (by_rhosts t i a s b) _ _ q (λ d q. let w : 11 ≡ v = cc in found (at n (Name j)) 11 (rhosts_line there is at_n has (not_from_Decides _ (equiv_decides t a s b) c) ((rhosts-decides t a (host_sound hs sound h t there).files.paths i s b).0 d)) (account-fits hs sound n s at_n j b has) (ap (λ z. grant n (Name j) z) w ∙ e))))))

      rule-12 : Filled (by_rhosts_file t h a) → Mine
      rule-12 e = via _ _ _ e (λ r at-r e. let f = home-in t a (codes "/.rhosts") r at-r in found (at h (Write r)) 12 (rhosts_file there is f.1) (row_fits hs sound h t there r f.0 f.1.row) e)

      rule-13 : Filled (by_home_file t h a (codes "/.cshrc") 13) → Mine
      rule-13 e = home_found a (codes "/.cshrc") 13 e (λ r x. cshrc_file there is)

      rule-14 : Filled (by_home_file t h a (codes "/.login") 14) → Mine
      rule-14 e = home_found a (codes "/.login") 14 e (λ r x. login_file there is)

      rule-15 : Filled (by_home_file t h a (codes "/.profile") 15) → Mine
      rule-15 e = home_found a (codes "/.profile") 15 e (λ r x. profile_file there is)

      rule-16 : Filled (by_equiv_file h a) → Mine
      rule-16 e = only (not (eqb a.number 0)) _ _ e (λ z e. fixed-found 4 (codes "/etc/hosts.equiv") 16 refl e (λ x. equiv_file there is (eqb-false _ 0 (not-true _ z))))

      rule-17 : Filled (by_root_file h a 9 17) → Mine
      rule-17 e = only (eqb a.number 0) _ _ e (λ z e. fixed-found 9 (codes "/usr/lib/crontab") 17 refl e (λ x. crontab_file there is (eqb-true _ 0 z)))

      rule-18 : Filled (by_root_file h a 10 18) → Mine
      rule-18 e = only (eqb a.number 0) _ _ e (λ z e. fixed-found 10 (codes "/usr/lib/aliases") 18 refl e (λ x. aliases_file there is (eqb-true _ 0 z)))

      rule-19 : Filled (by_root_file h a 5 19) → Mine
      rule-19 e = only (eqb a.number 0) _ _ e (λ z e. fixed-found 5 (codes "/etc/rc") 19 refl e (λ x. rc_file there is (eqb-true _ 0 z)))

      rule-20 : Filled (by_root_file h a 6 20) → Mine
      rule-20 e = only (eqb a.number 0) _ _ e (λ z e. fixed-found 6 (codes "/etc/rc.local") 20 refl e (λ x. rc_local_file there is (eqb-true _ 0 z)))

      of_number : (k : ℕ) → Filled (number_slot hs t h i a k) → Mine
      of_number k e =
          split (eqb k 0) _ _ _ e (λ _. rule-7) (λ _ e.
          split (eqb k 1) _ _ _ e (λ _. rule-8) (λ _ e.
          split (eqb k 2) _ _ _ e (λ _. rule-9) (λ _ e.
          split (eqb k 3) _ _ _ e (λ _. rule-12) (λ _ e.
          split (eqb k 4) _ _ _ e (λ _. rule-13) (λ _ e.
          split (eqb k 5) _ _ _ e (λ _. rule-14) (λ _ e.
          split (eqb k 6) _ _ _ e (λ _. rule-15) (λ _ e.
          split (eqb k 7) _ _ _ e (λ _. rule-16) (λ _ e.
          split (eqb k 8) _ _ _ e (λ _. rule-17) (λ _ e.
          split (eqb k 9) _ _ _ e (λ _. rule-18) (λ _ e.
          split (eqb k 10) _ _ _ e (λ _. rule-19) (λ _ e.
          split (eqb k 11) _ _ _ e (λ _. rule-20) (λ _. rules-10-and-11 ((k - 12) / 16) ((k - 12) % 16)))))))))))))

    module _ (j : ℕ) (b : GroupEntry) (is : Entry t.groups j b) where
      rule-21 : Filled (grant h (Replace 3) 21) → Found hs p u (at h (Group j))
      rule-21 e = fixed-found 3 (codes "/etc/group") 21 refl e (λ x. group_file there is)

      rule-22 : Filled (by_nis_map hs t (codes "/group.bygid.pag") 22) → Found hs p u (at h (Group j))
      rule-22 e = map_found (codes "/group.bygid.pag") 22 e (λ n r x. group_map there is)

      rule-23 : (i : ℕ) → Filled (by_member t h b i) → Found hs p u (at h (Group j))
      rule-23 i e = via (slice_get t.accounts i) _ _ e (λ a has e. only _ _ _ e (λ m e. number-found a.number 23 e (λ f c. member i there is has ((belongs_decides b i a).0 m))))

      of-group : (k : ℕ) → Filled (group_slot hs t h b k) → Found hs p u (at h (Group j))
      of-group k e = split (eqb k 0) _ _ _ e (λ _. rule-21) (λ _ e. split (eqb k 1) _ _ _ e (λ _. rule-22) (λ _. rule-23 (k - 2)))

    rule-24 : (i : ℕ) → Filled (any_slot t h i) → Found hs p u (at h AnyUser)
    rule-24 i e = only (is_first t.accounts i) _ _ e (λ b e.
        let f = (has_decides t (Number i)).0 b in
        found (at h (Number i)) 24 (some_number there f.1.there) (account-fits hs sound h t there i f.0 f.1.there) e)

    of_right : (w : Right) (k : ℕ) → Filled (right_slot hs t h w k) → Found hs p u (at h w)
    of_right AnyUser k e = rule-24 k e
    of_right (Name i) k e = via (slice_get t.accounts i) _ _ e (λ a is. of-name i a is k)
    of_right (Number i) k e = via (slice_get t.accounts i) _ _ e (λ a is. of_number i a is k)
    of_right (Group j) k e = via (slice_get t.groups j) _ _ e (λ b is. of-group j b is k)
    of_right (Write r) k e = via (slice_get t.files r) _ _ e (λ x is e. via x.stat _ _ e (λ s stat. of-write r x is s stat k))
    of_right (Replace r) k e = via (slice_get t.files r) _ _ e (λ x is. of-replace r x is k)

  rule-25 : (h : ℕ) → Filled (root_slot hs h) → Found hs p u root_anywhere
  rule-25 h e = via (slice_get hs h) _ _ e (λ t there e. via (position (λ a. bytes_eq a.name (codes "root")) t.accounts) _ _ e (λ i at_i e.
      let f = place_in (λ a. bytes_eq a.name (codes "root")) t.accounts i at_i in
      found (at h (Name i)) 25 (root_by_name there f.there ((bytes_eq-Decides _ _).0 f.passes)) (account-fits hs sound h t there i f.entry f.there) e))

  pub slot-allowed : (y : AnyPrivilege) (k : ℕ) → slots hs y k ≡ Some (p, u) → Found hs p u y
  slot-allowed (at h w) k e = via (slice_get hs h) _ _ e (λ t there. of_right h t there w k)
  slot-allowed root_anywhere k e = rule-25 k e
