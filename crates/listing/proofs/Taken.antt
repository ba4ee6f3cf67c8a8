-- What is known of a line, a table and a text that were not refused. Assumes nothing.
use Rattle.std.proofs.Common.{◌≡◌, ℕ, Bool, true, false, Some, None, Ok, Err, Option, Result, refl}
use Rattle.reading.specs.declared.fault.Refusal.{Refusal}
use Rattle.reading.specs.Reads.{wants, needs, and_then, at_line}

pub wants_ok : {A B : Type 0} (w : Refusal) (o : Option A) (f : A → Result B Refusal) (y : B) → wants w o f ≡ Ok y → (x : A) × (o ≡ Some x) × (f x ≡ Ok y)
wants_ok w (Some x) f y e = (x, refl, e)
wants_ok w None f y e = cc

pub needs_ok : {B : Type 0} (w : Refusal) (b : Bool) (r : Result B Refusal) (y : B) → needs w b r ≡ Ok y → (b ≡ true) × (r ≡ Ok y)
needs_ok w true r y e = (refl, e)
needs_ok w false r y e = cc

pub and_then_ok : {A B E : Type 0} (r : Result A E) (f : A → Result B E) (y : B) → and_then r f ≡ Ok y → (x : A) × (r ≡ Ok x) × (f x ≡ Ok y)
and_then_ok (Ok x) f y e = (x, refl, e)
and_then_ok (Err z) f y e = cc

pub at_line_ok : {A : Type 0} (n : ℕ) (r : Result A Refusal) (y : A) → at_line n r ≡ Ok y → r ≡ Ok y
at_line_ok n (Ok x) y e = cc
at_line_ok n (Err w) y e = cc
