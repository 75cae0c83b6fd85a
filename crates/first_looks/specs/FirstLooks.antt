-- For each question the first step that asked it. (This project's own.)
use Rattle.std.specs.Prelude.{◌≡◌, ℕ, List, Option, Bool}
use Rattle.first_looks.specs.declared.question.Question.{Question}
use Rattle.first_looks.specs.declared.question.Question.TheVariants.{Cell, Script, Host}
use Rattle.first_looks.specs.declared.file_steps.FileSteps.{FileSteps}
use Rattle.first_looks.specs.FirstSteps.{step_in}
use Rattle.first_looks.specs.FileSteps.{step_of_ask}
pub use Rattle.first_looks.specs.Noting.{or_else, step_if, step_below}

-- A table of first looks: a step for each cell and each script offset that was looked at, and for each question that the host
-- files were asked; and the step below which all looks are noted.
pub record FirstLooksView : Type 0 where
  pub cells : List (Option ℕ)
  pub offsets : List (Option ℕ)
  pub files : FileSteps
  pub seen : ℕ

abbrev pub step_of : FirstLooksView → Question → Option ℕ
step_of t (Cell a) = step_in t.cells a
step_of t (Script k) = step_in t.offsets k
step_of t (Host a) = step_of_ask t.files a

-- Each of these questions is noted at step `seen`, unless it has a step.
abbrev pub NotesLooks : FirstLooksView → FirstLooksView → (Question → Bool) → Type 0
NotesLooks old new is_one = (q : Question) → step_of new q ≡ or_else (step_of old q) (step_if (is_one q) old.seen)

-- The steps of all questions are the same.
abbrev pub SameLooks : FirstLooksView → FirstLooksView → Type 0
SameLooks old new = (q : Question) → step_of new q ≡ step_of old q

-- The steps below `seen` are the same.
abbrev pub SameBelow : FirstLooksView → FirstLooksView → Type 0
SameBelow old new = (q : Question) → step_below old.seen (step_of new q) ≡ step_below old.seen (step_of old q)

-- The steps from `from` on are erased.
abbrev pub ErasesLooks : ℕ → FirstLooksView → FirstLooksView → Type 0
ErasesLooks from old new = (q : Question) → step_of new q ≡ step_below from (step_of old q)

-- The same steps, with all looks noted below this step.
abbrev pub with_seen : FirstLooksView → ℕ → FirstLooksView
with_seen t step = record t { seen = step }
