-- Names and paths that hold their bytes. Assumes nothing.
use Rattle.std.specs.Prelude.{ℕ, Bool, cond, List, Some, None, Option}
use Rattle.bounded.specs.ArrayVecs.{items_of}
use Rattle.text.specs.Bytes.{fits, name_form}
use Rattle.text.specs.Paths.{path_form}
use Rattle.text.specs.declared.kept.Form.{Ghosts}
use Rattle.text.specs.declared.kept.Formed.{Formed}
use Rattle.text.specs.declared.kept.NameForm.{NameForm}
use Rattle.text.specs.declared.kept.PathForm.{PathForm}
use Rattle.text.specs.contracts.kept.NameFormForm.TheImpl.{ghosts as name_ghosts}
use Rattle.text.specs.contracts.kept.PathFormForm.TheImpl.{ghosts as path_ghosts}

-- the bytes of a text of a form
abbrev pub formed_bytes : {F : Type 0} {n : ℕ} {g : Ghosts F} → Formed F n g → List ℕ
formed_bytes p = items_of p.bytes

-- a `Name` and a `Path`, since antt has no name for an alias
abbrev pub KeptName : Type 0
KeptName = Formed NameForm 31 name_ghosts

abbrev pub KeptPath : Type 0
KeptPath = Formed PathForm 63 path_ghosts

abbrev pub name_bytes : KeptName → List ℕ
name_bytes n = formed_bytes n

abbrev pub path_bytes : KeptPath → List ℕ
path_bytes p = formed_bytes p

-- the text that bytes are, if there are n at most and they have the form
abbrev pub formed_in : ℕ → (List ℕ → Bool) → List ℕ → Option (List ℕ)
formed_in n form bs = cond (fits n form bs) (Some bs) None

-- the name that bytes are, if they are one
abbrev pub name_in : List ℕ → Option (List ℕ)
name_in bs = formed_in 31 name_form bs

-- the path that bytes are, if they are one
abbrev pub path_in : List ℕ → Option (List ℕ)
path_in bs = formed_in 63 path_form bs
