-- What hosts.equiv and a .rhosts say. Assumes nothing.
use Rattle.std.specs.Prelude.{ℕ, Bool, false, cond, not, ◌&&◌, ◌||◌, List, [], ◌∷◌, map, Some, None, Ok, codes, Option, Result, ◌==◌}
use Rattle.std.specs.Option.{option_map}
use Rattle.std.specs.Str.{bytes_eq}
use Rattle.text.specs.Cuts.{words}
use Rattle.text.specs.Kept.{name_in}
use Rattle.region.specs.Tables.{TrustWord, anyone, named, TrustEntry}
use Rattle.reading.specs.declared.fault.LineFault.{LineFault}
use Rattle.reading.specs.declared.fault.Refusal.{Refusal}
use Rattle.reading.specs.declared.fault.Refusal.TheVariants.{Fields, BadName, NotCovered}
use Rattle.reading.specs.Reads.{wants, needs, and_then, passed_over, read_text}
use Rattle.tables.specs.Steps.{with_row}
use Rattle.trust.specs.declared.lines.TrustLines.{TrustLines}
use Rattle.trust.specs.declared.words.Words.{Words}
use Rattle.trust.specs.Rows.{trust_entry}

-- the lines that a table holds
abbrev pub trust_of : {most : ℕ} → TrustLines most → List TrustEntry
trust_of t = map trust_entry t.rows

-- a host word, and perhaps a user word
pub record LineWords : Type 0 where
  pub host : List ℕ
  pub user : Option (List ℕ)

abbrev pub line_words : Words → LineWords
line_words w = record { host = w.host.now; user = option_map (λ u. u.now) w.user }

-- one or two words
abbrev pub one_or_two : List (List ℕ) → Option LineWords
one_or_two [] = None
one_or_two (h ∷ []) = Some (record { host = h; user = None })
one_or_two (h ∷ (u ∷ [])) = Some (record { host = h; user = Some u })
one_or_two (h ∷ (u ∷ (w ∷ ws))) = None

abbrev pub begins : ℕ → List ℕ → Bool
begins b [] = false
begins b (c ∷ cs) = c == b

-- a word that begins with a minus, or with a plus and an at sign
abbrev pub uncovered : List ℕ → Bool
uncovered [] = false
uncovered (b ∷ bs) = b == 45 || (b == 43 && begins 64 bs)

abbrev pub uncovered_user : Option (List ℕ) → Bool
uncovered_user None = false
uncovered_user (Some u) = uncovered u

abbrev pub uncovered_in : LineWords → Bool
uncovered_in w = uncovered w.host || uncovered_user w.user

-- a plus, or a name
abbrev pub word_in : List ℕ → Option TrustWord
word_in w = cond (bytes_eq w (codes "+")) (Some anyone) (option_map named (name_in w))

abbrev pub user_in : Option (List ℕ) → Result (Option TrustWord) Refusal
user_in None = Ok None
user_in (Some w) = wants BadName (word_in w) (λ u. Ok (Some u))

-- the trust that a line gives
abbrev pub line_in : List ℕ → Result TrustEntry Refusal
line_in l =
    wants Fields (one_or_two (words l)) (λ w.
    needs NotCovered (not (uncovered_in w))
    (wants BadName (word_in w.host) (λ h.
    and_then (user_in w.user) (λ u.
    Ok (record { host = h; user = u })))))

-- the lines after a line, in a table that has room for most
abbrev pub trust_step : ℕ → List TrustEntry → List ℕ → Result (List TrustEntry) Refusal
trust_step most rows l = cond (passed_over l) (Ok rows) (and_then (line_in l) (λ x. with_row most rows x))

-- the lines that a text gives, or its first bad line
abbrev pub trust_in : ℕ → List ℕ → Result (List TrustEntry) LineFault
trust_in most bs = read_text (trust_step most) [] bs
