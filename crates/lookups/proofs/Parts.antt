-- Bytes that are compared part by part. Assumes nothing.
use Rattle.std.proofs.Common.{◌≡◌, ◌≢◌, ℕ, Bool, false, List, ◌++◌, Some, None, Option, Bor, MatchOption, sym, ap, ◌∙◌}
use Rattle.std.specs.Option.{option_eq}
use Rattle.std.specs.Str.{bytes_eq}
use Rattle.std.proofs.lemmas.Slice.Eq.{bytes_eq-Decides}
use Rattle.std.proofs.lemmas.List.{append_cancel_left, append_cancel_right}
use Rattle.std.proofs.lemmas.Bool.{false≢true}
use Rattle.std.proofs.lemmas.Bool.Decides.{same_from_decides}

same_when : (a b c d : List ℕ) → (a ≡ b → c ≡ d) → (c ≡ d → a ≡ b) → bytes_eq a b ≡ bytes_eq c d
same_when a b c d f g = same_from_decides (bytes_eq a b) (bytes_eq c d) (λ t. f ((bytes_eq-Decides a b).0 t), λ e. (bytes_eq-Decides a b).1 (g e)) (bytes_eq-Decides c d)

-- bytes that are not those
not_same : (path whole : List ℕ) → path ≢ whole → false ≡ bytes_eq path whole
not_same path whole apart = same_from_decides false (bytes_eq path whole) (λ e. absurd (false≢true e), λ e. absurd (apart e)) (bytes_eq-Decides path whole)

-- what stands before the back is the front, if the path is the front and then the back
pub front_is : (path back : List ℕ) (front : Bor (List ℕ)) (rest : Option (Bor (List ℕ))) → MatchOption rest ((x : List ℕ) → path ≢ x ++ back) (λ x. path ≡ x.now ++ back) → option_eq (λ x y. bytes_eq x.now y.now) rest (Some front) ≡ bytes_eq path (front.now ++ back)
front_is path back front None apart = not_same path (front.now ++ back) (apart front.now)
front_is path back front (Some x) p = same_when x.now front.now path (front.now ++ back) (λ e. p ∙ ap (λ z. z ++ back) e) (λ e. append_cancel_right x.now front.now back (sym p ∙ e))

-- what stands after the front is the back, if the path is the front and then the back
pub back_is : (path front back : List ℕ) (rest : Option (Bor (List ℕ))) (r : Bool) → MatchOption rest ((x : List ℕ) → path ≢ front ++ x) (λ x. path ≡ front ++ x.now) → MatchOption rest (r ≡ false) (λ x. r ≡ bytes_eq x.now back) → r ≡ bytes_eq path (front ++ back)
back_is path front back None r apart h = h ∙ not_same path (front ++ back) (apart back)
back_is path front back (Some x) r p h = h ∙ same_when x.now back path (front ++ back) (λ e. p ∙ ap (λ z. front ++ z) e) (λ e. append_cancel_left front x.now back (sym p ∙ e))
