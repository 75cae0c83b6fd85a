-- The state of a runner once a report that borrows it is gone. (This project's own.)
use Rattle.std.specs.Prelude.{⊤}
use Rattle.std.specs.Borrow.{follows_so, MutBor, Fml}
use mathlib.Core.Option.{none}
use Rattle.replay.specs.declared.runner.Runner.{Runner}
use Rattle.replay.specs.contracts.runner.Runner.{the_row}

abbrev pub EndsAs : MutBor Runner → (Runner → Type 0) → Fml
EndsAs s P = follows_so the_row the_row s.ghost_name none (λ _ _. ⊤) P
