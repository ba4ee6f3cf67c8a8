-- What lines, fields, words and digits have to do with the text that they are cut from. Assumes nothing.
use Rattle.std.specs.Prelude.{◌≡◌, ℕ, ◌+◌, ◌-◌, ◌*◌, ◌^◌, Bool, true, cond, not, ◌&&◌, List, [], ◌∷◌, ◌++◌, length, Some, None, filter, Option, ◌==◌}
use Rattle.std.specs.List.{list_all, concat, join_with_byte}
use Rattle.text.specs.Bytes.{within}
use Rattle.text.specs.Cuts.{marks, lines, fields, words, some}
use Rattle.text.specs.declared.cuts.Mark.{Mark}
use Rattle.text.specs.declared.cuts.Mark.TheVariants.{Newline, Blank, Colon, Comma, Slash, Equals, Hash}

-- none of the bytes is a mark
abbrev pub markless : (ℕ → Bool) → List ℕ → Bool
markless p bs = list_all (λ b. not (p b)) bs

-- lines, each with the byte 10 that ends it
abbrev pub ended : List (List ℕ) → List ℕ
ended [] = []
ended (l ∷ ls) = l ++ (10 ∷ ended ls)

-- whether a text ends where a line does: it is empty, or its last byte is 10
abbrev pub whole_lines : List ℕ → Bool
whole_lines [] = true
whole_lines (b ∷ []) = b == 10
whole_lines (b ∷ (c ∷ bs)) = whole_lines (c ∷ bs)

-- the lines with their ends are the text, but for the end of the last line where the text lacks it
pub record LinesJoined (bs : List ℕ) : Type 0 where
  pub joined : ended (lines bs) ≡ bs ++ cond (whole_lines bs) [] (10 ∷ [])
  pub apart : list_all (markless (marks Newline)) (lines bs) ≡ true

-- the byte of a mark; a blank or a tab can part words, so there is no one byte
abbrev pub mark_byte : Mark → Option ℕ
mark_byte Newline = Some 10
mark_byte Blank = None
mark_byte Colon = Some 58
mark_byte Comma = Some 44
mark_byte Slash = Some 47
mark_byte Equals = Some 61
mark_byte Hash = Some 35

-- the fields joined by the mark are the text, and none holds the mark
pub record FieldsJoined (m : Mark) (bs : List ℕ) : Type 0 where
  pub joined : (b : ℕ) → mark_byte m ≡ Some b → join_with_byte b (fields m bs) ≡ bs
  pub apart : list_all (markless (marks m)) (fields m bs) ≡ true

-- the words are all bytes of the text but blanks and tabs, in their order; none is empty or holds a blank or tab
pub record WordsApart (bs : List ℕ) : Type 0 where
  pub joined : concat (words bs) ≡ filter (λ b. not (marks Blank b)) bs
  pub apart : list_all (λ w. some w && markless (marks Blank) w) (words bs) ≡ true

-- the value of digits in a base: each counts by the power of the base that its place has
abbrev pub positional : ℕ → List ℕ → ℕ
positional base [] = 0
positional base (b ∷ bs) = (b - 48) * base ^ length bs + positional base bs

-- n is the value of the digits, each of which is a byte from 48 to last
pub record DigitsValue (base last : ℕ) (bs : List ℕ) (n : ℕ) : Type 0 where
  pub digits : list_all (within 48 last) bs ≡ true
  pub value : n ≡ positional base bs
