-- What a call that may be refused comes to, and a text that is read line by line. Assumes nothing.
use Rattle.std.specs.Prelude.{ℕ, ◌+◌, Bool, true, false, cond, not, List, [], ◌∷◌, length, Some, None, Ok, Err, filter, Option, Result, ◌==◌, nat_le}
use Rattle.reading.specs.declared.fault.Kind.{Kind}
use Rattle.reading.specs.declared.fault.LineFault.{LineFault}
use Rattle.reading.specs.declared.fault.TextFault.{TextFault}
use Rattle.reading.specs.declared.fault.Refusal.{Refusal}
use Rattle.reading.specs.declared.fault.Refusal.TheVariants.{TooLong}
use Rattle.text.specs.Cuts.{lines}
use Rattle.reading.specs.Faults.{fault, in_text}

-- a line wants something, or is refused
abbrev pub wants : {A B : Type 0} → Refusal → Option A → (A → Result B Refusal) → Result B Refusal
wants w None f = Err w
wants w (Some x) f = f x

-- a line needs something to hold, or is refused
abbrev pub needs : {B : Type 0} → Refusal → Bool → Result B Refusal → Result B Refusal
needs w true r = r
needs w false r = Err w

abbrev pub and_then : {A B E : Type 0} → Result A E → (A → Result B E) → Result B E
and_then (Err e) f = Err e
and_then (Ok x) f = f x

abbrev pub ok_mapped : {A B E : Type 0} → (A → B) → Result A E → Result B E
ok_mapped f (Ok x) = Ok (f x)
ok_mapped f (Err e) = Err e

abbrev pub value_or : {A E : Type 0} → A → Result A E → A
value_or d (Ok x) = x
value_or d (Err e) = d

-- what a call comes to that answers r and leaves a
abbrev pub outcome : {A E : Type 0} → Result (Unit {0}) E → A → Result A E
outcome (Ok u) a = Ok a
outcome (Err e) a = Err e

-- an empty line, or a comment
abbrev pub passed_over : List ℕ → Bool
passed_over [] = true
passed_over (b ∷ bs) = b == 35

-- whether a line is neither empty nor a comment
abbrev pub gives_entry : List ℕ → Bool
gives_entry l = not (passed_over l)

-- the lines that give an entry, in the kinds of texts that pass over empty lines and comments
abbrev pub entry_lines : List ℕ → List (List ℕ)
entry_lines bs = filter gives_entry (lines bs)

-- what comes of line n: a refusal is told with the line's number
abbrev pub at_line : {A : Type 0} → ℕ → Result A Refusal → Result A LineFault
at_line n (Ok x) = Ok x
at_line n (Err w) = Err (fault w n)

-- what lines from number n on make of a
abbrev pub read_from : {A : Type 0} → (A → List ℕ → Result A Refusal) → ℕ → A → List (List ℕ) → Result A LineFault
read_from step n a [] = Ok a
read_from step n a (l ∷ ls) = and_then (at_line n (step a l)) (λ b. read_from step (n + 1) b ls)

-- what a text makes of a table that holds first on the first day: a text has at most 8,192 bytes
abbrev pub read_text : {A : Type 0} → (A → List ℕ → Result A Refusal) → A → List ℕ → Result A LineFault
read_text step first bs = cond (nat_le (length bs) 8192) (read_from step 1 first (lines bs)) (Err (fault TooLong 0))

-- the answer of a read: a bad line is told with the kind of text
abbrev pub text_told : {A : Type 0} → Kind → Result A LineFault → Result (Unit {0}) TextFault
text_told k (Ok x) = Ok tt
text_told k (Err e) = Err (in_text k e)
