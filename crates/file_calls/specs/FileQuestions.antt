-- The questions of a file call about the files, with their answers. (This project's own.)
use Rattle.std.specs.Prelude.{ℕ, ◌==◌, Bool, Option, slice_index}
use Rattle.std.specs.List.{filter}
use Rattle.std.specs.FinMap.{entries}
use Rattle.interaction_trees.specs.Tree.{Tree}
use Rattle.hostfiles.specs.Entries.{Shape, Shapes, Listing}
use Rattle.hostfiles.specs.Hosts.{Key, Record}

-- Whether there is a file with this key; the shape of a file, which says for each record number whether there is a record; the
-- record at a record number, `None` for a hole; the files of a drive.
pub data FileQuestion : Type 0 where
  IsThere : Key → FileQuestion
  ShapeOf : Key → FileQuestion
  Content : Key → ℕ → FileQuestion
  FilesOn : ℕ → FileQuestion

abbrev pub FileAnswer : FileQuestion → Type 0
FileAnswer (IsThere key) = Bool
FileAnswer (ShapeOf key) = Shape
FileAnswer (Content key k) = Option Record
FileAnswer (FilesOn drive) = Listing

abbrev pub FileAnswers : Type 0
FileAnswers = (q : FileQuestion) → FileAnswer q

abbrev pub FileTree : Type 0 → Type 0
FileTree E = Tree FileQuestion FileAnswer E

-- Whether a key is on a drive, which is its first byte.
abbrev pub is_on : ℕ → Key → Bool
is_on drive key = drive == slice_index key 0

unfoldable pub files_on : ℕ → Shapes → Listing
files_on drive m = filter (λ e. is_on drive e.0) (entries m)
