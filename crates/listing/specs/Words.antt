-- The words of a line of a listing. Assumes nothing.
use Rattle.std.specs.Prelude.{ℕ, Bool, true, cond, ◌&&◌, List, [], ◌∷◌, map, Some, None, Option, option_map, ◌==◌}
use Rattle.text.specs.declared.cuts.Mark.TheVariants.{Equals}
use Rattle.text.specs.Cuts.{marks, until, past, words}
use Rattle.listing.specs.declared.words.Word.{Word}
use Rattle.listing.specs.declared.words.Word.TheVariants.{Path, Keyword}

-- a word: a path, by what stands past its dot, or a keyword, with its text if it has an equals sign
pub data Piece : Type 0 where
  path_word : List ℕ → Piece
  key_word : List ℕ → Option (List ℕ) → Piece

-- nothing, or a slash and more
abbrev pub slashed : List ℕ → Bool
slashed [] = true
slashed (b ∷ bs) = b == 47

-- what stands past the dot of a word that is a dot, or begins with a dot and a slash
abbrev pub dotted : List ℕ → Option (List ℕ)
dotted [] = None
dotted (b ∷ bs) = cond (b == 46 && slashed bs) (Some bs) None

abbrev pub path_or : Option (List ℕ) → Piece → Piece
path_or None p = p
path_or (Some bs) p = path_word bs

-- a word is a path if it has that form, and else a keyword, cut at its first equals sign
abbrev pub piece_of : List ℕ → Piece
piece_of w = path_or (dotted w) (key_word (until (marks Equals) w) (past (marks Equals) w))

-- the words of a line
abbrev pub pieces : List ℕ → List Piece
pieces bs = map piece_of (words bs)

abbrev pub seen_word : Word → Piece
seen_word (Path w) = path_word w.now
seen_word (Keyword k t) = key_word k.now (option_map (λ x. x.now) t)
