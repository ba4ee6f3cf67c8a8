-- What a line of a listing says. Assumes nothing.
use Rattle.std.specs.Prelude.{ℕ, ◌+◌, Bool, true, false, cond, ◌&&◌, ◌||◌, List, [], ◌∷◌, filter_map, Some, None, Ok, codes, Option, Result, ◌==◌}
use Rattle.std.specs.List.{list_all}
use Rattle.std.specs.Str.{bytes_eq}
use Rattle.std.specs.Borrow.{Bor}
use Rattle.text.specs.Bytes.{number, mode}
use Rattle.text.specs.Kept.{path_bytes, path_in}
use Rattle.region.specs.Tables.{Stat}
use Rattle.reading.specs.declared.fault.Refusal.{Refusal}
use Rattle.reading.specs.declared.fault.Refusal.TheVariants.{Fields, BadNumber, BadName, NotCovered}
use Rattle.reading.specs.Reads.{wants, needs}
use Rattle.listing.specs.declared.entry.Found.{Found}
use Rattle.listing.specs.declared.entry.Row.{Row}
use Rattle.listing.specs.Rows.{stat_of}
use Rattle.listing.specs.Words.{Piece, path_word, key_word, pieces}

-- a path, and what its line says of the file there
pub record Listed : Type 0 where
  pub path : List ℕ
  pub stat : Stat

abbrev pub listed_row : Row → Listed
listed_row r = record { path = path_bytes r.path; stat = stat_of r.stat }

-- the path that a word is
abbrev pub path_of : Piece → Option (List ℕ)
path_of (path_word p) = Some p
path_of (key_word k t) = None

-- the paths among words
abbrev pub paths : List Piece → List (List ℕ)
paths ps = filter_map path_of ps

-- of the words from place i on, none but the first of the line is a path
abbrev pub placed : ℕ → List Piece → Bool
placed i [] = true
placed i (path_word p ∷ ps) = i == 0 && placed (i + 1) ps
placed i (key_word k t ∷ ps) = placed (i + 1) ps

-- the text that a word gives a key
abbrev pub text_of : List ℕ → Piece → Option (List ℕ)
text_of key (path_word p) = None
text_of key (key_word k None) = None
text_of key (key_word k (Some t)) = cond (bytes_eq k key) (Some t) None

-- the texts that words give a key
abbrev pub texts : List ℕ → List Piece → List (List ℕ)
texts key ps = filter_map (text_of key) ps

abbrev pub known : List ℕ → Bool
known k = bytes_eq k (codes "type") || bytes_eq k (codes "uid") || bytes_eq k (codes "gid") || bytes_eq k (codes "mode")

-- a path, or a keyword that is one of the four and has a text
abbrev pub is_covered : Piece → Bool
is_covered (path_word p) = true
is_covered (key_word k None) = false
is_covered (key_word k (Some t)) = known k

abbrev pub covered : List Piece → Bool
covered ps = list_all is_covered ps

-- the one that is given, where that is one
abbrev pub only : List (List ℕ) → Option (List ℕ)
only [] = None
only (t ∷ []) = Some t
only (t ∷ u ∷ ts) = None

-- the types of files that are no directories
abbrev pub other_type : List ℕ → Bool
other_type t = bytes_eq t (codes "block") || bytes_eq t (codes "char") || bytes_eq t (codes "fifo") || bytes_eq t (codes "file") || bytes_eq t (codes "link") || bytes_eq t (codes "socket")

-- whether a type is that of a directory, where it is one of the seven
abbrev pub dir_type : List ℕ → Option Bool
dir_type t = cond (bytes_eq t (codes "dir")) (Some true) (cond (other_type t) (Some false) None)

-- the path that stands past a dot; a dot alone is the root
abbrev pub row_path : List ℕ → Option (List ℕ)
row_path [] = Some (codes "/")
row_path (b ∷ bs) = path_in (b ∷ bs)

-- the row that is made of paths and of the texts of the four keywords, each given once; w says that the path is well placed, and c that each keyword is covered
abbrev pub row_from : Bool → List (List ℕ) → List (List ℕ) → List (List ℕ) → List (List ℕ) → List (List ℕ) → Bool → Result Listed Refusal
row_from w paths kinds uids gids modes c =
    needs Fields w
    (wants Fields (only paths) (λ dotted.
    wants Fields (only kinds) (λ kind.
    wants Fields (only uids) (λ uid.
    wants Fields (only gids) (λ gid.
    wants Fields (only modes) (λ bits.
    needs NotCovered c
    (wants NotCovered (dir_type kind) (λ dir.
    wants BadName (row_path dotted) (λ path.
    wants BadNumber (number uid) (λ owner.
    wants BadNumber (number gid) (λ group.
    wants BadNumber (mode bits) (λ mode.
    Ok (record { path = path; stat = record { dir = dir; owner = owner; group = group; mode = mode } })))))))))))))

-- the row that the words of a line make
abbrev pub row_of : List Piece → Result Listed Refusal
row_of ps = row_from (placed 0 ps) (paths ps) (texts (codes "type") ps) (texts (codes "uid") ps) (texts (codes "gid") ps) (texts (codes "mode") ps) (covered ps)

-- the row that a line lists, or why it is refused
abbrev pub row : List ℕ → Result Listed Refusal
row bs = row_of (pieces bs)

-- texts behind what was given before
abbrev pub with_given : Option (Bor (List ℕ)) → List (List ℕ) → List (List ℕ)
with_given None ts = ts
with_given (Some t) ts = t.now ∷ ts

-- the row of the words found, where c says that each of them is covered, and of those from place i on
abbrev pub row_after : Found → Bool → ℕ → List Piece → Result Listed Refusal
row_after f c i ps = row_from (placed i ps) (with_given f.path (paths ps)) (with_given f.kind (texts (codes "type") ps)) (with_given f.uid (texts (codes "uid") ps)) (with_given f.gid (texts (codes "gid") ps)) (with_given f.mode (texts (codes "mode") ps)) (c && covered ps)
