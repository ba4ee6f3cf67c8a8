-- The directory above a path, by the last slash. Assumes nothing.
use Rattle.std.proofs.Common.{◌≡◌, ℕ, ◌+◌, ◌-◌, ◌<◌, ◌≤◌, Bool, false, not, ◌==◌, List, [], ◌∷◌, length, get_or, take, codes, sym, refl, ap, ◌∙◌, arith}
use Rattle.std.specs.List.{before_last}
use Rattle.std.proofs.lemmas.List.{length-take}
use Rattle.std.proofs.lemmas.List.Sums.{suffix_len_is}
use Rattle.text.specs.Paths.{or_root, parent}

-- what stands before the last slash, by its place
abbrev slash : ℕ → Bool
slash b = b == 47

up_to : (p : List ℕ) (n : ℕ) → n ≤ length p → ((k : ℕ) → n ≤ k → k < length p → slash (get_or p k 0) ≡ false) → (0 < n → get_or p (n - 1) 0 ≡ 47) → before_last slash p ≡ take (n - 1) p
up_to p n within after here =
    let long = suffix_len_is (λ b. not (slash b)) p n 0 within (λ k a b. rw (after k a b)) (λ f. rw (here f)) in
    ap (λ m. take m p) (omega (arith, long))

or_root-same : (q : List ℕ) → 0 < length q → q ≡ or_root q
or_root-same [] h = absurd (omega arith)
or_root-same (b ∷ bs) h = refl

module _ (p : List ℕ) (last : ℕ) (within : last < length p) (here : get_or p last 0 ≡ 47) (after : (k : ℕ) → last < k → k < length p → slash (get_or p k 0) ≡ false) where
  before-slash : before_last slash p ≡ take last p
  before-slash = up_to p (last + 1) (omega arith) (λ k a b. after k (omega arith) b) (λ f. ap (λ m. get_or p m 0) (omega arith) ∙ here) ∙ ap (λ m. take m p) (omega arith)

  pub parent_below : 0 < last → take last p ≡ parent p
  parent_below high = or_root-same (take last p) (rw (length-take last p) (omega arith)) ∙ ap or_root (sym before-slash)

  pub parent_top : last ≡ 0 → codes "/" ≡ parent p
  parent_top low = ap or_root (ap (λ m. take m p) (sym low) ∙ sym before-slash)

pub parent_none : (p : List ℕ) → ((k : ℕ) → k < length p → slash (get_or p k 0) ≡ false) → codes "/" ≡ parent p
parent_none p none = ap or_root (sym (up_to p 0 (omega arith) (λ k a b. none k b) (λ f. absurd (omega arith))))
