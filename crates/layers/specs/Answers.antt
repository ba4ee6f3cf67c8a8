-- What each change of a layer answers, and the number of each refusal.
use Rattle.std.specs.Prelude.{ℕ, Bool, cond, ◌&&◌, List, length, Ok, Err, Result, nat_lt}
use Rattle.std.specs.List.{list_any}
use Rattle.rules.specs.Rules.{Rules}
use Rattle.layers.specs.Layers.{room, is_pair, member}
use Rattle.layers.specs.declared.refusal.Refusal.{Refusal}
use Rattle.layers.specs.declared.refusal.Refusal.TheVariants.{NotLive, AlreadyThere, NotThere, NoRoom}

abbrev pub number : Refusal → ℕ
number NotLive = 12
number AlreadyThere = 14
number NotThere = 14
number NoRoom = 15

abbrev pub Answer : Type 0
Answer = Result (Unit {0}) Refusal

-- accepted, or refused by a number
abbrev pub Verdict : Type 0
Verdict = Result (Unit {0}) ℕ

-- the answer with its refusal by number
abbrev pub numbered : Answer → Verdict
numbered (Ok u) = Ok u
numbered (Err e) = Err (number e)

abbrev pub done : Answer
done = Ok tt

abbrev pub refused : Refusal → Answer
refused e = Err e

-- an entry is put into a list: already there, no room, in this order
abbrev pub entering : Bool → Bool → Answer
entering there space = cond there (refused AlreadyThere) (cond space done (refused NoRoom))

-- an entry is taken out of a list: not there
abbrev pub leaving : Bool → Answer
leaving there = cond there done (refused NotThere)

-- an entry is added: not live comes first
abbrev pub adding : Bool → Bool → Bool → Answer
adding live there space = cond live (entering there space) (refused NotLive)

-- an entry is taken out: not live comes first
abbrev pub taking : Bool → Bool → Answer
taking live there = cond live (leaving there) (refused NotLive)

abbrev pub assume_answer : Rules → List (ℕ × ℕ) → ℕ → ℕ → Answer
assume_answer R ps p g = adding (R.live p && R.live g) (list_any (is_pair p g) ps) (nat_lt (length ps) (room R))

abbrev pub withdraw_answer : Rules → List (ℕ × ℕ) → ℕ → ℕ → Answer
withdraw_answer R ps p g = taking (R.live p && R.live g) (list_any (is_pair p g) ps)

abbrev pub bar_answer : Rules → List ℕ → ℕ → Answer
bar_answer R bs p = adding (R.live p) (member p bs) (nat_lt (length bs) 32)

abbrev pub lift_answer : Rules → List ℕ → ℕ → Answer
lift_answer R bs p = taking (R.live p) (member p bs)
