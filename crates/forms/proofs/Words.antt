-- A form, split at its blanks. Assumes nothing.
use Rattle.std.proofs.Common.{◌≡◌, ℕ, ◌^◌, ◌<◌, Bool, ltb, List, [], ◌∷◌, ◌++◌, codes, decimal, sym, refl, ap, ◌∙◌, append_assoc, arith}
use Rattle.std.proofs.lemmas.List.Elements.{All-head, All-tail, All-push}
use Rattle.std.proofs.lemmas.Bool.{le-ltb, cond-false}
use Rattle.text.specs.Cuts.{parted, onto}
use Rattle.forms.specs.Forms.{name_form, number_form, group_form, write_form, replace_form}
use Rattle.forms.proofs.Visible.{Visible, Solid, solid_decimal}

abbrev blank : ℕ → Bool
blank b = ltb b 33

abbrev pub split : List ℕ → List (List ℕ)
split bs = parted ([] ∷ []) blank bs

split_word : (w r : List ℕ) → Solid w → split (w ++ 32 ∷ r) ≡ w ∷ split r
split_word [] r h = refl
split_word (b ∷ w) r h = cond-false (blank b) _ _ (le-ltb b 33 (All-head Visible b w h).0) ∙ ap (onto b) (split_word w r (All-tail Visible b w h))

split_last : (w : List ℕ) → Solid w → split w ≡ w ∷ []
split_last [] h = refl
split_last (b ∷ w) h = cond-false (blank b) _ _ (le-ltb b 33 (All-head Visible b w h).0) ∙ ap (onto b) (split_last w (All-tail Visible b w h))

split_closed : (w r : List ℕ) → Solid w → split (w ++ 41 ∷ 32 ∷ r) ≡ (w ++ 41 ∷ []) ∷ split r
split_closed w r h = ap split (sym (append_assoc w (41 ∷ []) (32 ∷ r))) ∙ split_word (w ++ 41 ∷ []) r (All-push Visible w 41 h (omega arith, omega arith))

-- the words of each form
pub name-words : (n h : List ℕ) → Solid n → Solid h → split (name_form n h) ≡ codes "Become" ∷ codes "user" ∷ codes "named" ∷ n ∷ codes "at" ∷ h ∷ []
name-words n h k l = rw (split_word n (97 ∷ 116 ∷ 32 ∷ h) k, split_last h l)

pub number-words : (u : ℕ) (n h : List ℕ) → u < 2 ^ 64 → Solid n → Solid h → split (number_form u n h) ≡ codes "Become" ∷ codes "user" ∷ codes "number" ∷ decimal u ∷ (40 ∷ (n ++ 41 ∷ [])) ∷ codes "at" ∷ h ∷ []
number-words u n h s k l = rw (split_word (decimal u) (40 ∷ (n ++ 41 ∷ 32 ∷ 97 ∷ 116 ∷ 32 ∷ h)) (solid_decimal u s), split_closed n (97 ∷ 116 ∷ 32 ∷ h) k, split_last h l)

pub group-words : (u : ℕ) (n h : List ℕ) → u < 2 ^ 64 → Solid n → Solid h → split (group_form u n h) ≡ codes "Become" ∷ codes "member" ∷ codes "of" ∷ codes "group" ∷ decimal u ∷ (40 ∷ (n ++ 41 ∷ [])) ∷ codes "at" ∷ h ∷ []
group-words u n h s k l = rw (split_word (decimal u) (40 ∷ (n ++ 41 ∷ 32 ∷ 97 ∷ 116 ∷ 32 ∷ h)) (solid_decimal u s), split_closed n (97 ∷ 116 ∷ 32 ∷ h) k, split_last h l)

pub write_words : (p h : List ℕ) → Solid p → Solid h → split (write_form p h) ≡ codes "Write" ∷ codes "file" ∷ p ∷ codes "at" ∷ h ∷ []
write_words n h k l = rw (split_word n (97 ∷ 116 ∷ 32 ∷ h) k, split_last h l)

pub replace_words : (p h : List ℕ) → Solid p → Solid h → split (replace_form p h) ≡ codes "Replace" ∷ codes "file" ∷ p ∷ codes "at" ∷ h ∷ []
replace_words n h k l = rw (split_word n (97 ∷ 116 ∷ 32 ∷ h) k, split_last h l)
