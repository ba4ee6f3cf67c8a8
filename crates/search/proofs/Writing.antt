-- A plan is written one entry at a time.
use Rattle.std.proofs.Common.{◌≡◌, ℕ, suc, ◌+◌, ◌<◌, List, [], ◌∷◌, length, get_or, set, sym, refl, ap, ◌∙◌, add-one, arith}
use Rattle.std.proofs.lemmas.List.{get_or_default}
use Rattle.rules.specs.declared.weights.Label.{Label}
use Rattle.search.specs.Labels.{label, blank}
use Rattle.search.specs.Lists.{overlay}
use Rattle.search.specs.Plans.{Follows, rules_of, Fitting, Done}

-- the one list written over the other from place i on
abbrev laid : {X : Type 0} → List X → ℕ → List X → List X
laid [] i ys = ys
laid (x ∷ xs) i ys = laid xs (suc i) (set ys i x)

laid-suc : {X : Type 0} (xs : List X) (i : ℕ) (y : X) (ys : List X) → laid xs (suc i) (y ∷ ys) ≡ y ∷ laid xs i ys
laid-suc [] i y ys = refl
laid-suc (x ∷ xs) i y ys = laid-suc xs (suc i) y (set ys i x)

laid-nil : {X : Type 0} (xs : List X) (i : ℕ) → laid xs i [] ≡ []
laid-nil [] i = refl
laid-nil (x ∷ xs) i = laid-nil xs (suc i)

laid-zero : {X : Type 0} (xs ys : List X) → laid xs 0 ys ≡ overlay xs ys
laid-zero [] ys = refl
laid-zero (x ∷ xs) [] = laid-nil xs 1
laid-zero (x ∷ xs) (y ∷ ys) = laid-suc xs 0 x ys ∙ ap (λ zs. x ∷ zs) (laid-zero xs ys)

-- the first i steps are written, and what is written with the rest is the whole
pub record Written {W : Type 0} (z : W) (ls : List (Label W)) (t p : ℕ) (plan₀ rules₀ : List ℕ) (at i : ℕ) (plan rules : List ℕ) : Type 0 where
  pub fits : Fitting z ls t p plan₀ rules₀
  pub rest : List ℕ
  pub left : Follows z ls t at rest
  pub count : i + length rest ≡ length fits.rest
  pub plan_is : laid rest (suc i) plan ≡ overlay (p ∷ fits.rest) plan₀
  pub rules_is : laid (rules_of z ls at rest) (suc i) rules ≡ overlay (0 ∷ rules_of z ls p fits.rest) rules₀

module _ {W : Type 0} (z : W) (ls : List (Label W)) (t p : ℕ) (plan₀ rules₀ : List ℕ) where
  pub write-first : Fitting z ls t p plan₀ rules₀ → Written z ls t p plan₀ rules₀ p 0 (set plan₀ 0 p) (set rules₀ 0 0)
  write-first f = record {
    fits = f;
    rest = f.rest;
    left = f.follows;
    count = omega arith;
    plan_is = laid-zero (p ∷ f.rest) plan₀;
    rules_is = laid-zero (0 ∷ rules_of z ls p f.rest) rules₀;
  }

  module _ (at i : ℕ) (plan rules : List ℕ) (w : Written z ls t p plan₀ rules₀ at i plan rules) where
    -- where the target is not yet reached
    pub ahead : (at ≡ t → ⊥) → (at < length ls) × (i < length w.fits.rest)
    ahead nt = go w.rest w.left w.count
      where
        go : (qs : List ℕ) → Follows z ls t at qs → i + length qs ≡ length w.fits.rest → (at < length ls) × (i < length w.fits.rest)
        go [] f e = absurd (nt f)
        go (q ∷ qs) f e = (f.1, omega arith)

    pub write-on : (at ≡ t → ⊥) → (l : Label W) → l ≡ get_or ls at l → Written z ls t p plan₀ rules₀ l.next (i + 1) (set plan (i + 1) l.next) (set rules (i + 1) l.rule)
    write-on nt l read = go w.rest w.left w.count w.plan_is w.rules_is
      where
        go : (qs : List ℕ) → Follows z ls t at qs → i + length qs ≡ length w.fits.rest → laid qs (suc i) plan ≡ overlay (p ∷ w.fits.rest) plan₀ →
            laid (rules_of z ls at qs) (suc i) rules ≡ overlay (0 ∷ rules_of z ls p w.fits.rest) rules₀ → Written z ls t p plan₀ rules₀ l.next (i + 1) (set plan (i + 1) l.next) (set rules (i + 1) l.rule)
        go [] f e a b = absurd (nt f)
        go (q ∷ qs) f e a b =
            let is : label z ls at ≡ l = get_or_default ls at (blank z) l f.1 ∙ sym read in
            let next : q ≡ l.next = sym f.2 ∙ ap (λ x. x.next) is in
            record {
              fits = w.fits;
              rest = qs;
              left = rw (← next) f.3;
              count = omega arith;
              plan_is = rw (add-one, ← next) a;
              rules_is = rw (add-one, ← next, ← is) b;
            }

    pub write-done : at ≡ t → (d : Label W) → Done z ls t p (record { steps = i; weight = (get_or ls p d).weight }) plan₀ plan rules₀ rules
    write-done here d = go w.rest w.left w.count w.plan_is w.rules_is
      where
        go : (qs : List ℕ) → Follows z ls t at qs → i + length qs ≡ length w.fits.rest → laid qs (suc i) plan ≡ overlay (p ∷ w.fits.rest) plan₀ →
            laid (rules_of z ls at qs) (suc i) rules ≡ overlay (0 ∷ rules_of z ls p w.fits.rest) rules₀ → Done z ls t p (record { steps = i; weight = (get_or ls p d).weight }) plan₀ plan rules₀ rules
        go (q ∷ qs) f e a b = absurd (f.0 here)
        go [] f e a b = record {
          rest = w.fits.rest;
          follows = w.fits.follows;
          steps = omega arith;
          weight = ap (λ (l : Label W). l.weight) (get_or_default ls p d (blank z) w.fits.labelled);
          plan_is = a;
          rules_is = b;
        }
