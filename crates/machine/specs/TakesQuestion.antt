-- New looks are removed one by one. (This project's own.)
use Rattle.std.specs.Prelude.{◌≡◌, ℕ, ◌+◌, ◌-◌, ◌<◌, ◌≤◌, ◌||◌, Bool, false, Option, Some, None, IsSome, IsNone, length}
use Rattle.std.specs.FinMap.{len}
use Rattle.hostfiles.specs.declared.looks.FileLooks.{FileLooks}
use Rattle.first_looks.specs.declared.question.Question.{Question}
use Rattle.first_looks.specs.Questions.{same_question}
use Rattle.machine.specs.StateView.{AllLooks}
use Rattle.machine.specs.Machine.{is_looked_at, looks_from}

abbrev pub ask_count : FileLooks → ℕ
ask_count l = len l.has + len l.lengths + len l.records + len l.directories

-- The number of cells from cell n on, of script offsets, and of questions to the host files.
abbrev pub look_count : ℕ → AllLooks → ℕ
look_count n looked = (length looked.cells - n) + (looked.offsets.to - looked.offsets.from) + ask_count looked.files

-- Whether this is the question that was removed.
abbrev pub is_taken : Option Question → Question → Bool
is_taken None q = false
is_taken (Some x) q = same_question q x

-- One of the looks from cell n on is removed, unless there are none; the others are left, those at cells from cell m on.
pub record TakesQuestion (n : ℕ) (old : AllLooks) (taken : Option Question) (m : ℕ) (new : AllLooks) : Type 0 where
  pub cells : new.cells ≡ old.cells
  pub within : m ≤ length old.cells
  pub looks : (q : Question) → is_looked_at (looks_from n old) q ≡ (is_taken taken q || is_looked_at (looks_from m new) q)
  pub none : IsNone taken → (q : Question) → is_looked_at (looks_from m new) q ≡ false
  pub fewer : IsSome taken → look_count m new < look_count n old
