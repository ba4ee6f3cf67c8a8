-- A group lists an account exactly where the account's name stands between the commas. Assumes nothing.
use Rattle.std.proofs.Common.{◌≡◌, ℕ, ◌<◌, Bool, true, false, ◌||◌, List, [], ◌∷◌, ◌++◌, length, get_or, set, replicate, Some, Ok, Decides, sym, refl, ap, ◌∙◌, ⊎_elim, append_assoc, append-nil, arith, get_or-set_other, get_or-set_same}
use Rattle.std.specs.List.{list_any}
use Rattle.std.specs.Str.{bytes_eq}
use Rattle.std.proofs.Math.Bool.{or_assoc, or-false, or-true}
use Rattle.std.proofs.lemmas.Slice.Eq.{bytes_eq-Decides}
use Rattle.std.proofs.lemmas.List.{length-set, length-replicate, get_or-replicate}
use Rattle.std.proofs.lemmas.List.Folds.{Any-from_list_any, list_any_at}
use Rattle.std.proofs.lemmas.List.Quantifiers.{position-Some}
use Rattle.std.proofs.lemmas.Option.{slice_get_within, slice_get-get_or, slice_get_read, get_or_from_slice_get}
use Rattle.std.proofs.lemmas.Bool.{cases_eq, false_from_ne_true}
use Rattle.reading.specs.declared.fault.Refusal.TheVariants.{Unknown}
use Rattle.reading.specs.Reads.{read_from}
use Rattle.region.specs.Tables.{AccountEntry, GroupEntry}
use Rattle.region.specs.Sound.{Entry, AccountsSound}
use Rattle.tables.specs.PasswdText.{account_named, account_place}
use Rattle.tables.specs.GroupText.{listed_from, listed_in, group_step}
use Rattle.tables.specs.MemberLaws.{Among, line_members, ListedExactly, LineByLine}
use Rattle.tables.proofs.Counts.{wants_ok, by_lines}
use Rattle.tables.proofs.GroupLaws.{group_added}

-- whether a name stands somewhere
among : (n : List ℕ) (ms : List (List ℕ)) → Decides (list_any (bytes_eq n) ms) (Among n ms)
among n ms = (
  λ h. let x = Any-from_list_any (bytes_eq n) ms h in (x.0, slice_get_read ms (length ms) x.0 x.1 refl x.2 (sym x.3) ∙ ap Some (sym ((bytes_eq-Decides n x.1).0 x.4))),
  λ w. list_any_at (bytes_eq n) ms w.0 n (slice_get_within ms w.0 n w.1) (rw (get_or_from_slice_get ms w.0 n n w.1) ((bytes_eq-Decides n n).1 refl)),
)

module _ (accounts : List AccountEntry) (sound : AccountsSound accounts) (i : ℕ) (a : AccountEntry) (there : Entry accounts i a) where
  -- an account that is found by a name is the one that bears it
  found : (m : List ℕ) (k : ℕ) → account_place m accounts ≡ Some k → (a.name ≡ m → k ≡ i) × (k ≡ i → a.name ≡ m)
  found m k e =
      let p = position-Some (account_named m) accounts k a e in
      let name : (get_or accounts k a).name ≡ m = (bytes_eq-Decides (get_or accounts k a).name m).0 p.1 in
      (λ same. sound.names k i (get_or accounts k a) a (slice_get-get_or accounts k a p.0) there (name ∙ sym same), λ same. rw (same, get_or_from_slice_get accounts i a a there) at name)

  joined : (m : List ℕ) (k : ℕ) (before : List Bool) → account_place m accounts ≡ Some k → i < length before → get_or (set before k true) i false ≡ (get_or before i false || bytes_eq a.name m)
  joined m k before e h =
      ⊎_elim
      (λ same.
      let bears : bytes_eq a.name m ≡ true = (bytes_eq-Decides a.name m).1 ((found m k e).1 same) in
      let is : get_or (set before k true) i false ≡ true = rw same (get_or-set_same before i true false h) in
      rw (is, bears, or-true))
      (λ other.
      let bears : bytes_eq a.name m ≡ false = false_from_ne_true _ (λ t. other ((found m k e).0 ((bytes_eq-Decides a.name m).0 t))) in
      rw (get_or-set_other before k i true false (λ q. other (sym q)), bears, or-false))
      (cases_eq k i)

  listed-from : (before : List Bool) (ms : List (List ℕ)) (out : List Bool) → i < length before → listed_from accounts before ms ≡ Ok out → get_or out i false ≡ (get_or before i false || list_any (bytes_eq a.name) ms)
  listed-from before [] out h e = let same : before ≡ out = cc in rw (same, or-false)
  listed-from before (m ∷ ms) out h e =
      let w = wants_ok Unknown (account_place m accounts) _ out e in
      rw (listed-from (set before w.0 true) ms out (rw length-set h) w.2, joined m w.0 before w.1 h, or_assoc)

  pub listed_decides : (ms : List (List ℕ)) (listed : List Bool) → listed_in accounts ms ≡ Ok listed → Decides (get_or listed i false) (Among a.name ms)
  listed_decides ms listed e =
      let low : i < 16 = omega (arith, slice_get_within accounts i a there, sound.few) in
      rw (listed-from (replicate 16 false) ms listed (rw length-replicate low) e, get_or-replicate 16 i false false low) (among a.name ms)

-- line by line
module _ (accounts : List AccountEntry) (sound : AccountsSound accounts) where
  pub members-listed : (ls : List (List ℕ)) (table : List GroupEntry) → read_from (group_step accounts) 1 [] ls ≡ Ok table → LineByLine (ListedExactly accounts) ls table
  members-listed ls table read =
      let all = by_lines (group_step accounts)
      (λ rows ls ys. (gs : List GroupEntry) × (ys ≡ rows ++ gs) × LineByLine (ListedExactly accounts) ls gs)
      (λ rows. ([], sym (append-nil rows), tt))
      (λ rows l more ls ys e h.
      let q = group_added accounts rows l more e in
      (q.0 ∷ h.0, h.1 ∙ ap (λ b. b ++ h.0) q.1 ∙ append_assoc rows (q.0 ∷ []) h.0, ((λ i a there. listed_decides accounts sound i a there (line_members l) q.0.listed q.2), h.2)))
      1 [] ls table read in
      rw all.1 all.2
