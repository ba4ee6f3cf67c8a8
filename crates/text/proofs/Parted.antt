-- A text is its first part and the parts past the mark. Assumes nothing.
use Rattle.std.proofs.Common.{◌≡◌, ℕ, suc, ◌+◌, ◌<◌, ◌≤◌, Bool, true, false, cond, ltb, not, ◌⊎◌, List, [], ◌∷◌, length, take, drop, Some, None, filter, position, unwrap_or, Option, sym, refl, ap, subst, ◌∙◌, inl, inr, ⊎_elim, arith}
use Rattle.std.specs.List.{position_or_len}
use Rattle.std.proofs.lemmas.Grind.{common_steps}
use Rattle.std.proofs.lemmas.List.{drop_all}
use Rattle.text.specs.declared.cuts.Mark.{Mark}
use Rattle.text.specs.Cuts.{marks, until, past, onto, parted, later, fields, fields_past, lines, words, some}
use Rattle.text.specs.declared.cuts.Mark.TheVariants.{Newline, Blank}

-- some text: at a mark, or before its end

pub parted_cons : (e : List (List ℕ)) (p : ℕ → Bool) (b : ℕ) (bs : List ℕ) (t : Bool) → p b ≡ t → (e ≡ []) ⊎ (e ≡ [] ∷ []) → parted e p (b ∷ bs) ≡ until p (b ∷ bs) ∷ later e p (past p (b ∷ bs))
parted_cons e p b bs true h k = rw h
parted_cons e p b [] false h k = rw h (⊎_elim (λ i. ap (onto b) i) (λ i. ap (onto b) i) k)
parted_cons e p b (a ∷ bs) false h k = rw h (ap (onto b) (parted_cons e p a bs (p a) refl k))

-- a text between marks has a first part, which may be empty
pub fields_cut : (p : ℕ → Bool) (bs : List ℕ) → parted ([] ∷ []) p bs ≡ until p bs ∷ later ([] ∷ []) p (past p bs)
fields_cut p [] = refl
fields_cut p (b ∷ bs) = parted_cons ([] ∷ []) p b bs (p b) refl (inr refl)

-- a text that ends at a mark, too, unless it is empty
pub lines_cut : (p : ℕ → Bool) (bs : List ℕ) → 0 < length bs → parted [] p bs ≡ until p bs ∷ later [] p (past p bs)
lines_cut p [] h = absurd (omega arith)
lines_cut p (b ∷ bs) h = parted_cons [] p b bs (p b) refl (inl refl)

one_more : (n : ℕ) → suc n ≡ 1 + n
one_more n = omega arith

-- the first mark by its place
module _ (p : ℕ → Bool) where
  until_front_at : (b : ℕ) (bs : List ℕ) (t : Bool) → p b ≡ t → until p bs ≡ take (position_or_len p bs) bs → until p (b ∷ bs) ≡ take (position_or_len p (b ∷ bs)) (b ∷ bs)
  until_front_at b bs true h k = rw h
  until_front_at b bs false h k = rw h (ap (λ l. b ∷ l) k ∙ ap (λ n. take n (b ∷ bs)) (one_more (position_or_len p bs)))

  until_front : (bs : List ℕ) → until p bs ≡ take (position_or_len p bs) bs
  until_front [] = grind (arith, common_steps)
  until_front (b ∷ bs) = until_front_at b bs (p b) refl (until_front bs)

  past_front : (bs : List ℕ) → past p bs ≡ cond (ltb (position_or_len p bs) (length bs)) (Some (drop (position_or_len p bs + 1) bs)) None
  past_front [] = grind (arith, common_steps)
  past_front (b ∷ bs) = grind (arith, common_steps, past_front bs)

  pub until_at : (bs : List ℕ) (i : ℕ) → position p bs ≡ Some i → take i bs ≡ until p bs
  until_at bs i h = grind (arith, common_steps, until_front bs)

  pub past_at : (bs : List ℕ) (i : ℕ) → position p bs ≡ Some i → Some (drop (i + 1) bs) ≡ past p bs
  past_at bs i h = grind (arith, common_steps, past_front bs)

  pub until_none : (bs : List ℕ) → position p bs ≡ None → bs ≡ until p bs
  until_none bs h = grind (arith, common_steps, until_front bs)

  pub past_none : (bs : List ℕ) → position p bs ≡ None → None ≡ past p bs
  past_none bs h = grind (arith, common_steps, past_front bs)

  -- with nothing past it, the first part is all
  pub until-whole : (bs : List ℕ) → past p bs ≡ None → until p bs ≡ bs
  until-whole bs h = grind (arith, common_steps, past_front bs, until_front bs)

pub fields_at : (m : Mark) (s : List ℕ) (i : ℕ) → position (marks m) s ≡ Some i → fields m s ≡ take i s ∷ fields m (drop (i + 1) s)
fields_at m s i h = rw (until_at (marks m) s i h) (fields_cut (marks m) s ∙ ap (λ o. until (marks m) s ∷ fields_past m o) (sym (past_at (marks m) s i h)))

pub fields_none : (m : Mark) (s : List ℕ) → position (marks m) s ≡ None → fields m s ≡ s ∷ []
fields_none m s h = fields_cut (marks m) s ∙ ap (λ o. until (marks m) s ∷ fields_past m o) (sym (past_none (marks m) s h)) ∙ ap (λ l. l ∷ []) (sym (until_none (marks m) s h))

pub fields-some : (m : Mark) (s : List ℕ) → 0 < length (fields m s)
fields-some m s = rw (fields_cut (marks m) s) (omega arith)

-- the lines by what `cut` gives
later_lines : (o : Option (List ℕ)) → later [] (marks Newline) o ≡ lines (unwrap_or o [])
later_lines None = refl
later_lines (Some rest) = refl

pub lines_told : (s part : List ℕ) (o : Option (List ℕ)) → 0 < length s → part ≡ until (marks Newline) s → o ≡ past (marks Newline) s → lines s ≡ part ∷ lines (unwrap_or o [])
lines_told s part o full h k = rw (h, ← later_lines o, k) (lines_cut (marks Newline) s full)

-- the words by what `cut` gives past the blanks before the first
abbrev other : ℕ → Bool
other b = not (marks Blank b)

later_words : (o : Option (List ℕ)) → filter some (fields_past Blank o) ≡ words (unwrap_or o [])
later_words None = refl
later_words (Some rest) = refl

words_more : (s w : List ℕ) (o : Option (List ℕ)) → fields Blank s ≡ w ∷ fields_past Blank o → 0 < length w → words s ≡ w ∷ words (unwrap_or o [])
words_more s [] o h k = absurd (omega arith)
words_more s (b ∷ w) o h k = rw (h, ← later_words o)

-- past i blanks, the words are the same, and one begins there unless nothing is left
record Skips (s : List ℕ) (i : ℕ) : Type 0 where
  pub same : words s ≡ words (drop i s)
  pub begins : i < length s → 0 < length (until (marks Blank) (drop i s))

skips_at : (b : ℕ) (bs : List ℕ) (t : Bool) → marks Blank b ≡ t → Skips bs (position_or_len other bs) → Skips (b ∷ bs) (position_or_len other (b ∷ bs))
skips_at b bs true h k =
    let at : position_or_len other (b ∷ bs) ≡ 1 + position_or_len other bs = rw h in
    let gone : words (b ∷ bs) ≡ words bs = rw h in
    let left : drop (position_or_len other (b ∷ bs)) (b ∷ bs) ≡ drop (position_or_len other bs) bs = ap (λ n. drop n (b ∷ bs)) (at ∙ sym (one_more (position_or_len other bs))) in
    record { same = gone ∙ k.same ∙ ap words (sym left); begins = λ l. rw left (k.begins (omega arith)) }
skips_at b bs false h k =
    let left : drop (position_or_len other (b ∷ bs)) (b ∷ bs) ≡ b ∷ bs = rw h in
    let first : until (marks Blank) (b ∷ bs) ≡ b ∷ until (marks Blank) bs = rw h in
    record { same = ap words (sym left); begins = λ l. rw (left, first) (omega arith) }

skips : (bs : List ℕ) → Skips bs (position_or_len other bs)
skips [] = record { same = refl; begins = λ h. absurd (omega arith) }
skips (b ∷ bs) = skips_at b bs (marks Blank b) refl (skips bs)

pub words_told : (s t w : List ℕ) (i : ℕ) (o : Option (List ℕ)) → position other s ≡ Some i → t ≡ drop i s → w ≡ until (marks Blank) t → fields Blank t ≡ w ∷ fields_past Blank o → words s ≡ w ∷ words (unwrap_or o [])
words_told s t w i o h left k e =
    let at : position_or_len other s ≡ i = grind (arith, common_steps) in
    let inside : position_or_len other s < length s = grind (arith, common_steps) in
    let past_blanks : Skips s i = subst (Skips s) at (skips s) in
    past_blanks.same ∙ ap words (sym left) ∙ words_more t w o e (rw (k, left) (past_blanks.begins (omega (arith, at, inside))))

pub words_none : (s : List ℕ) → position other s ≡ None → words s ≡ []
words_none s h =
    let none : length s ≤ position_or_len other s = grind (arith, common_steps) in
    (skips s).same ∙ rw (drop_all (position_or_len other s) s none)
