-- What a push and a removal do to a set.
use Rattle.std.proofs.Common.{◌≡◌, Bool, true, false, not, ◌&&◌, ◌||◌, eqb, List, [], ◌∷◌, ◌++◌, refl, ap, ◌∙◌, arith}
use Rattle.std.proofs.lemmas.Bool.{and_parts, and_from, or_parts, eq-eqb, eqb-true, cond_both}
use Rattle.layers.specs.Layers.{without}
use Rattle.trial.specs.Sets.{has, apart, Tells, same_pair}

pub eqb_tells_all : Tells eqb
eqb_tells_all = record { same = λ x. eq-eqb x x refl; equal = λ x y. eqb-true x y }

pub pair_tells : Tells same_pair
pair_tells = record {
  same = λ x. and_from _ _ (eq-eqb x.0 x.0 refl) (eq-eqb x.1 x.1 refl);
  equal = λ x y t. let b = and_parts _ _ t in ap (λ v. (v, x.1)) (eqb-true _ _ b.0) ∙ ap (λ v. (y.0, v)) (eqb-true _ _ b.1);
}

module _ {X : Type 0} (e : X → X → Bool) (tells : Tells e) where
  pub has_push : (z x : X) (xs : List X) → has e z (xs ++ x ∷ []) ≡ (has e z xs || e x z)
  has_push z x [] = grind arith
  has_push z x (y ∷ xs) = let h = has_push z x xs in grind arith

  pub has-without : (z x : X) (xs : List X) → apart e xs ≡ true → has e z (without (λ y. e y x) xs) ≡ (has e z xs && not (e x z))
  has-without z x [] a = refl
  has-without z x (y ∷ xs) a =
      let h = has-without z x xs (and_parts (not (has e y xs)) (apart e xs) a).1 in
      let yx = tells.equal y x in
      let xz = tells.equal x z in
      let yz = tells.equal y z in
      cond_both (e y x) xs (y ∷ without (λ v. e v x) xs) (λ ys. has e z ys ≡ ((e y z || has e z xs) && not (e x z))) (λ t. grind arith) (λ f. grind arith)

  pub apart-push : (x : X) (xs : List X) → apart e xs ≡ true → has e x xs ≡ false → apart e (xs ++ x ∷ []) ≡ true
  apart-push x [] a n = refl
  apart-push x (y ∷ xs) a n =
      let h = apart-push x xs (and_parts (not (has e y xs)) (apart e xs) a).1 (or_parts (e y x) (has e x xs) n).1 in
      let p = has_push y x xs in
      let xy = tells.equal x y in
      grind arith

  pub apart-without : (x : X) (xs : List X) → apart e xs ≡ true → apart e (without (λ y. e y x) xs) ≡ true
  apart-without x [] a = refl
  apart-without x (y ∷ xs) a =
      let b : (not (has e y xs) ≡ true) × (apart e xs ≡ true) = and_parts _ _ a in
      let h = apart-without x xs b.1 in
      let p = has-without y x xs b.1 in
      cond_both (e y x) xs (y ∷ without (λ v. e v x) xs) (λ ys. apart e ys ≡ true) (λ _. b.1) (λ f. grind arith)
