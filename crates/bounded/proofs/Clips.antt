-- Lists cut to the room there is. Assumes nothing.
use Rattle.std.proofs.Common.{◌≡◌, ℕ, zero, suc, ◌+◌, ◌<◌, ◌≤◌, List, [], ◌∷◌, ◌++◌, length, get_or, take, sym, refl, ap, ◌∙◌, append_assoc, zero-le, arith}
use Rattle.bounded.specs.ArrayVecs.{Added}
use Rattle.std.proofs.lemmas.List.{take_more, take_all, length-append}

pub take_again : {A : Type 0} (n : ℕ) (xs ys : List A) → take n (take n xs ++ ys) ≡ take n (xs ++ ys)
take_again zero xs ys = refl
take_again (suc n) [] ys = refl
take_again (suc n) (x ∷ xs) ys = ap (λ l. x ∷ l) (take_again n xs ys)

-- two additions, one after the other
pub clip : {A : Type 0} {n : ℕ} {a b c x y : List A} → Added n a x b → Added n b y c → Added n a (x ++ y) c
clip {n = n} {a = a} {x = x} {y = y} e f = record { is = f.is ∙ ap (λ l. take n (l ++ y)) e.is ∙ take_again n (a ++ x) y ∙ ap (take n) (append_assoc a x y) }

-- where there is room, all is added
pub added_all : {A : Type 0} {n : ℕ} {a b x : List A} → Added n a x b → length a + length x ≤ n → b ≡ a ++ x
added_all {n = n} {a = a} {x = x} e h = e.is ∙ take_all n (a ++ x) (rw (length-append a x) h)

pub clip_room : {A : Type 0} (n : ℕ) (xs : List A) (y : A) → length (take n xs) < n → take n xs ++ y ∷ [] ≡ take n (xs ++ y ∷ [])
clip_room zero xs y h = absurd (omega arith)
clip_room (suc n) [] y h = ap (λ l. y ∷ l) (sym (take_all n [] zero-le))
clip_room (suc n) (x ∷ xs) y h = ap (λ l. x ∷ l) (clip_room n xs y (omega arith))

pub clip_full : {A : Type 0} (n : ℕ) (xs : List A) (y : A) → n ≤ length (take n xs) → take n xs ≡ take n (xs ++ y ∷ [])
clip_full zero xs y h = refl
clip_full (suc n) [] y h = absurd (omega arith)
clip_full (suc n) (x ∷ xs) y h = ap (λ l. x ∷ l) (clip_full n xs y (omega arith))

module _ {A : Type 0} (n : ℕ) (e s t : List A) (i : ℕ) (x : A) (h : i < length s) (is : x ≡ get_or s i x) (inv : t ≡ take n (e ++ take i s)) where
  more : e ++ take (i + 1) s ≡ (e ++ take i s) ++ x ∷ []
  more = ap (λ l. e ++ l) (take_more s i x h ∙ ap (λ y. take i s ++ y ∷ []) (sym is)) ∙ sym (append_assoc e (take i s) (x ∷ []))

  pub add-room : (u : List A) → length t < n → u ≡ t ++ x ∷ [] → u ≡ take n (e ++ take (i + 1) s)
  add-room u k f = f ∙ ap (λ l. l ++ x ∷ []) inv ∙ clip_room n (e ++ take i s) x (rw inv at k) ∙ ap (take n) (sym more)

  pub add-full : n ≤ length t → t ≡ take n (e ++ take (i + 1) s)
  add-full k = inv ∙ clip_full n (e ++ take i s) x (rw inv at k) ∙ ap (take n) (sym more)

pub told : {A : Type 0} {n : ℕ} {a b x y : List A} → Added n a y b → x ≡ y → Added n a x b
told {n = n} {a = a} e f = record { is = e.is ∙ ap (λ l. take n (a ++ l)) (sym f) }
