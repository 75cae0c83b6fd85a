-- Which steps an edit touches. (This project's own.)
use Rattle.std.specs.Prelude.{◌≡◌, ℕ, ◌<◌, ◌≤◌, Some, ◌⊎◌}
use Rattle.machine.specs.Tree.{AgreeOn}
use Rattle.first_looks.specs.declared.question.Question.{Question}
use Rattle.machine.specs.Machine.{Answers, looks}
use Rattle.first_looks.specs.FirstLooks.{FirstLooksView, step_of}

-- No step below n asks a question that g answers differently: n is at most the touch, or there is no touch.
abbrev pub Untouched : Answers → Answers → ℕ → Type 0
Untouched f g n = (i : ℕ) → i < n → AgreeOn (looks f i) f g

-- The first noted step that asked a question with another answer, or the step below which all looks are noted.
pub record IsNotedTouch (f g : Answers) (k : FirstLooksView) (t : ℕ) : Type 0 where
  pub within : t ≤ k.seen
  pub below : (q : Question) (m : ℕ) → step_of k q ≡ Some m → m < t → f q ≡ g q
  pub here : (t ≡ k.seen) ⊎ ((q : Question) × (step_of k q ≡ Some t) × (f q ≡ g q → ⊥))
