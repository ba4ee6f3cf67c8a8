-- A board: the memory of a search, and what it holds.
use Rattle.std.specs.Prelude.{◌≡◌, length}
use Rattle.search.specs.declared.board.Board.{Board}
use Rattle.search.specs.Labels.{State}

-- the marks and labels on it
abbrev pub state : {W : Type 0} → Board W → State W
state b = (b.marks.now, b.labels.now)

-- it lies over the same memory as before
pub record SameMemory {W : Type 0} (old new : Board W) : Type 0 where
  pub marks : new.marks.ghost_name ≡ old.marks.ghost_name
  pub labels : new.labels.ghost_name ≡ old.labels.ghost_name
  pub as_many : length new.marks.now ≡ length old.marks.now

-- over the same memory, it holds these marks and labels
pub record Becomes {W : Type 0} (old new : Board W) (s : State W) : Type 0 where
  pub memory : SameMemory old new
  pub holds : state new ≡ s
