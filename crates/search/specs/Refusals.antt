-- The number of each refusal of a question.
use Rattle.std.specs.Prelude.{ℕ, Ok, Err, Result}
use Rattle.search.specs.declared.answer.Refusal.{Refusal}
use Rattle.search.specs.declared.answer.Refusal.TheVariants.{ShortMemory, BadHeldByte, NotLive, NoChain}

abbrev pub number : Refusal → ℕ
number ShortMemory = 1
number BadHeldByte = 16
number NotLive = 12
number NoChain = 13

-- the number by which a question is refused, and 0 where it is answered
abbrev pub refusal : {X : Type 0} → Result X Refusal → ℕ
refusal (Ok x) = 0
refusal (Err e) = number e
