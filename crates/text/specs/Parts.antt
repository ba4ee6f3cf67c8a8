-- What is left of the lines, words and fields of a text. Assumes nothing.
use Rattle.std.specs.Prelude.{ℕ, List}
use Rattle.std.specs.Option.{option_map}
use Rattle.text.specs.Cuts.{lines, words, fields_past}
use Rattle.text.specs.declared.parts.LinesLeft.{LinesLeft}
use Rattle.text.specs.declared.parts.WordsLeft.{WordsLeft}
use Rattle.text.specs.declared.parts.FieldsLeft.{FieldsLeft}

abbrev pub lines_left : LinesLeft → List (List ℕ)
lines_left it = lines it.left.now

abbrev pub words_left : WordsLeft → List (List ℕ)
words_left it = words it.left.now

abbrev pub fields_left : FieldsLeft → List (List ℕ)
fields_left it = fields_past it.mark (option_map (λ x. x.now) it.left)
