-- Trust lines that were read have their forms, and there is one for each entry line. Assumes nothing.
use Rattle.std.proofs.Common.{◌≡◌, ℕ, zero, suc, ◌+◌, ◌≤◌, Bool, true, false, cond, List, [], ◌∷◌, map, length, Some, None, Ok, Option, arith}
use Rattle.std.specs.Option.{option_map}
use Rattle.std.proofs.lemmas.List.{length-map}
use Rattle.reading.specs.Reads.{and_then, passed_over}
use Rattle.region.specs.Tables.{TrustEntry}
use Rattle.region.specs.Sound.{Each}
use Rattle.tables.specs.Steps.{with_row}
use Rattle.tables.proofs.Counts.{row_grown}
use Rattle.trust.specs.declared.words.TrustWord.{TrustWord}
use Rattle.trust.specs.declared.words.TrustWord.TheVariants.{Anyone, Named}
use Rattle.trust.specs.declared.words.TrustLine.{TrustLine}
use Rattle.trust.specs.Rows.{trust_word, trust_entry}
use Rattle.trust.specs.Formed.{WordFormed, UserFormed, TrustFormed, TrustSound}
use Rattle.trust.specs.TrustText.{line_in, trust_step}

word_formed : (w : TrustWord) → WordFormed (trust_word w)
word_formed Anyone = tt
word_formed (Named n) = n.formed

user_formed : (u : Option TrustWord) → UserFormed (option_map trust_word u)
user_formed None = tt
user_formed (Some w) = word_formed w

each_row : {X Y : Type 0} (P : Y → Type 0) (view : X → Y) → ((x : X) → P (view x)) → (xs : List X) → Each P (map view xs)
each_row P view f [] i y e = grind arith
each_row P view f (x ∷ xs) zero y e = let same : view x ≡ y = cc in rw (← same) (f x)
each_row P view f (x ∷ xs) (suc i) y e = each_row P view f xs i y e

pub trust_sound : (most : ℕ) (rows : List TrustLine) → length rows ≤ most → TrustSound most (map trust_entry rows)
trust_sound most rows h = record { few = rw length-map h; formed = each_row TrustFormed trust_entry (λ x. record { host = word_formed x.host; user = user_formed x.user }) rows }

grown_if : (most : ℕ) (rows : List TrustEntry) (l : List ℕ) (ys : List TrustEntry) (t : Bool) → cond t (Ok rows) (and_then (line_in l) (λ x. with_row most rows x)) ≡ Ok ys → length ys ≡ length rows + cond t 0 1
grown_if most rows l ys true e = grind arith
grown_if most rows l ys false e = row_grown (line_in l) (λ _. true) most rows ys e

pub trust_grows : (most : ℕ) (rows : List TrustEntry) (l : List ℕ) (ys : List TrustEntry) → trust_step most rows l ≡ Ok ys → length ys ≡ length rows + cond (passed_over l) 0 1
trust_grows most rows l ys = grown_if most rows l ys (passed_over l)
