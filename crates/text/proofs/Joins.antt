-- Lines, fields and words joined again are the text. Assumes nothing.
use Rattle.std.proofs.Common.{◌≡◌, ℕ, Bool, true, false, cond, not, ◌&&◌, eqb, List, [], ◌∷◌, ◌++◌, Some, filter, sym, refl, ap, ◌∙◌, arith}
use Rattle.std.proofs.lemmas.Bool.{eqb-true, and_parts, and_from}
use Rattle.text.specs.declared.cuts.Mark.{Mark}
use Rattle.text.specs.declared.cuts.Mark.TheVariants.{Newline, Blank, Colon, Comma, Slash, Equals, Hash}
use Rattle.std.specs.List.{list_all, concat, join_with_byte, slice_split}
use Rattle.std.proofs.lemmas.List.Splits.{join_with_byte-slice_split}
use Rattle.text.specs.Cuts.{marks, until, past, onto, parted, later, lines, fields, some}
use Rattle.text.specs.PartLaws.{markless, ended, whole_lines, LinesJoined, mark_byte, FieldsJoined, WordsApart}
use Rattle.text.proofs.Parted.{lines_cut}

-- no part holds a mark
onto-markless : (p : ℕ → Bool) (b : ℕ) (ps : List (List ℕ)) → p b ≡ false → list_all (markless p) ps ≡ true → list_all (markless p) (onto b ps) ≡ true
onto-markless p b [] h k = rw h
onto-markless p b (x ∷ xs) h k = rw h k

parted_markless_at : (e : List (List ℕ)) (p : ℕ → Bool) (b : ℕ) (bs : List ℕ) (t : Bool) → p b ≡ t → list_all (markless p) (parted e p bs) ≡ true → list_all (markless p) (parted e p (b ∷ bs)) ≡ true
parted_markless_at e p b bs true h k = rw h k
parted_markless_at e p b bs false h k = rw h (onto-markless p b (parted e p bs) h k)

parted-markless : (e : List (List ℕ)) (p : ℕ → Bool) (bs : List ℕ) → list_all (markless p) e ≡ true → list_all (markless p) (parted e p bs) ≡ true
parted-markless e p [] k = k
parted-markless e p (b ∷ bs) k = parted_markless_at e p b bs (p b) refl (parted-markless e p bs k)

-- lines
ended-onto : (b : ℕ) (ls : List (List ℕ)) (x : List ℕ) (xs : List (List ℕ)) → ls ≡ x ∷ xs → ended (onto b ls) ≡ b ∷ ended ls
ended-onto b ls x xs e = rw e

ended_last : (b : ℕ) (t : Bool) → eqb b 10 ≡ t → ended (lines (b ∷ [])) ≡ b ∷ cond (whole_lines (b ∷ [])) [] (10 ∷ [])
ended_last b true h = rw h (ap (λ n. n ∷ []) (sym (eqb-true b 10 h)))
ended_last b false h = rw h

ended_more : (b c : ℕ) (bs tail : List ℕ) (t : Bool) → eqb b 10 ≡ t → ended (lines (c ∷ bs)) ≡ tail → ended (lines (b ∷ (c ∷ bs))) ≡ b ∷ tail
ended_more b c bs tail true h k = rw h (ap (λ l. 10 ∷ l) k ∙ ap (λ n. n ∷ tail) (sym (eqb-true b 10 h)))
ended_more b c bs tail false h k = rw h (ended-onto b (lines (c ∷ bs)) (until (marks Newline) (c ∷ bs)) (later [] (marks Newline) (past (marks Newline) (c ∷ bs))) (lines_cut (marks Newline) (c ∷ bs) (omega arith)) ∙ ap (λ l. b ∷ l) k)

ended-lines : (bs : List ℕ) → ended (lines bs) ≡ bs ++ cond (whole_lines bs) [] (10 ∷ [])
ended-lines [] = refl
ended-lines (b ∷ []) = ended_last b (eqb b 10) refl
ended-lines (b ∷ (c ∷ bs)) = ended_more b c bs ((c ∷ bs) ++ cond (whole_lines (c ∷ bs)) [] (10 ∷ [])) (eqb b 10) refl (ended-lines (c ∷ bs))

pub lines-joined : (bs : List ℕ) → LinesJoined bs
lines-joined bs = record { joined = ended-lines bs; apart = parted-markless [] (marks Newline) bs refl }

-- fields
parted_split : (p : ℕ → Bool) (bs : List ℕ) → parted ([] ∷ []) p bs ≡ slice_split p bs
parted_split p [] = refl
parted_split p (b ∷ bs) = ap (λ ls. cond (p b) ([] ∷ ls) (onto b ls)) (parted_split p bs)

some_same : (a b : ℕ) → Some a ≡ Some b → a ≡ b
some_same a b e = cc

joined_at : (c b : ℕ) (bs : List ℕ) → Some c ≡ Some b → join_with_byte b (parted ([] ∷ []) (λ a. eqb a c) bs) ≡ bs
joined_at c b bs e = rw (← some_same c b e, parted_split (λ a. eqb a c) bs) (join_with_byte-slice_split c bs)

joined : (m : Mark) (b : ℕ) (bs : List ℕ) → mark_byte m ≡ Some b → join_with_byte b (fields m bs) ≡ bs
joined Newline b bs e = joined_at 10 b bs e
joined Blank b bs e = let z : ◌≡◌ {A = ℕ} 0 1 = cc in absurd (omega arith)
joined Colon b bs e = joined_at 58 b bs e
joined Comma b bs e = joined_at 44 b bs e
joined Slash b bs e = joined_at 47 b bs e
joined Equals b bs e = joined_at 61 b bs e
joined Hash b bs e = joined_at 35 b bs e

pub fields-joined : (m : Mark) (bs : List ℕ) → FieldsJoined m bs
fields-joined m bs = record {
  joined = λ b e. joined m b bs e;
  apart = parted-markless ([] ∷ []) (marks m) bs refl;
}

-- words
joined-some : (fs : List (List ℕ)) → concat (filter some fs) ≡ concat fs
joined-some [] = refl
joined-some ([] ∷ fs) = joined-some fs
joined-some ((b ∷ w) ∷ fs) = ap (λ l. (b ∷ w) ++ l) (joined-some fs)

onto_one : (b : ℕ) (ps : List (List ℕ)) → concat (onto b ps) ≡ b ∷ concat ps
onto_one b [] = refl
onto_one b (x ∷ xs) = refl

bytes-at : (p : ℕ → Bool) (b : ℕ) (bs : List ℕ) (t : Bool) → p b ≡ t → concat (parted ([] ∷ []) p bs) ≡ filter (λ c. not (p c)) bs → concat (parted ([] ∷ []) p (b ∷ bs)) ≡ filter (λ c. not (p c)) (b ∷ bs)
bytes-at p b bs true h k = rw h k
bytes-at p b bs false h k = rw h (onto_one b (parted ([] ∷ []) p bs) ∙ ap (λ l. b ∷ l) k)

bytes_of : (p : ℕ → Bool) (bs : List ℕ) → concat (parted ([] ∷ []) p bs) ≡ filter (λ c. not (p c)) bs
bytes_of p [] = refl
bytes_of p (b ∷ bs) = bytes-at p b bs (p b) refl (bytes_of p bs)

some_apart : (q : List ℕ → Bool) (fs : List (List ℕ)) → list_all q fs ≡ true → list_all (λ w. some w && q w) (filter some fs) ≡ true
some_apart q [] k = refl
some_apart q ([] ∷ fs) k = some_apart q fs (and_parts (q []) (list_all q fs) k).1
some_apart q ((b ∷ w) ∷ fs) k = let both = and_parts (q (b ∷ w)) (list_all q fs) k in and_from (q (b ∷ w)) (list_all (λ v. some v && q v) (filter some fs)) both.0 (some_apart q fs both.1)

pub words_apart : (bs : List ℕ) → WordsApart bs
words_apart bs = record {
  joined = joined-some (fields Blank bs) ∙ bytes_of (marks Blank) bs;
  apart = some_apart (markless (marks Blank)) (fields Blank bs) (parted-markless ([] ∷ []) (marks Blank) bs refl);
}
