-- An error of an answer.
use Rattle.std.proofs.Common.{◌≡◌, [], ℕ, List, ap, inl, inr}
use Rattle.faults.specs.Faults.{file_paths}
use Rattle.faults.specs.declared.fault.Fault.{Fault}
use Rattle.streams.specs.Streams.{Output}
use Rattle.dependency_command.specs.Answers.{BreaksAnswer}

-- It is about no file.
pub no_paths : (Is : List ℕ → Type 0) (out written : Output) (f : Fault) → BreaksAnswer Is out written f → file_paths f ≡ []
no_paths Is out written f (inl h) = ap file_paths h.0
no_paths Is out written f (inr h) = ap file_paths h.0
