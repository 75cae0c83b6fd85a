-- The first looks of a session. (This project's own.)
use Rattle.std.specs.Prelude.{◌≡◌, ℕ, zero, suc, ◌+◌, nat_lt, if◌then◌else◌, Option, None, true}
use Rattle.first_looks.specs.declared.question.Question.{Question}
use Rattle.first_looks.specs.Questions.{is_in}
use Rattle.first_looks.specs.FirstLooks.{FirstLooksView, NotesLooks, ErasesLooks, step_of, or_else, step_if}
use Rattle.machine.specs.StateView.{AllLooks}
use Rattle.machine.specs.Machine.{Answers, looks, is_looked_at}

-- The first step below n that looks at q.
unfoldable pub first_look : Answers → Question → ℕ → Option ℕ
first_look f q zero = None
first_look f q (suc n) = or_else (first_look f q n) (step_if (is_in q (looks f n)) n)

-- How many steps ask: those of a run, and a stop below the limit, which asks as the step after the last one.
abbrev pub asking_steps : ℕ → ℕ → ℕ
asking_steps steps limit = if nat_lt steps limit then steps + 1 else steps

-- The table has the first looks of all steps below `seen`, and nothing else.
pub record IsFirstLooks (f : Answers) (t : FirstLooksView) : Type 0 where
  pub entry : (q : Question) → step_of t q ≡ first_look f q t.seen

-- Each question that was looked at has an entry.
abbrev pub AllNoted : FirstLooksView → AllLooks → Type 0
AllNoted t looked = (q : Question) → is_looked_at looked q ≡ true → step_of t q ≡ None → ⊥

-- The looks of step `seen` are noted, and it is now seen.
pub record NotesSeenStep (old new : FirstLooksView) (looked : AllLooks) : Type 0 where
  pub entries : NotesLooks old new (is_looked_at looked)
  pub seen : new.seen ≡ old.seen + 1

-- Nothing is noted, and step `seen` is not seen.
pub record ForgetsSeenStep (old new : FirstLooksView) : Type 0 where
  pub entries : ErasesLooks old.seen old new
  pub seen : new.seen ≡ old.seen
