-- The questions whose answer changes with a host file.
use Rattle.std.proofs.Common.{◌≡◌, ℕ, ◌<◌, List, Option, Some, inl, inr, refl, subst}
use Rattle.hostfiles.specs.Hosts.{Key, Record, Host}
use Rattle.first_looks.specs.declared.file_steps.FileSteps.{FileSteps}
use Rattle.first_looks.specs.Touch.{IsFileTouch}
use Rattle.first_looks.specs.Setting.{with_file}
use Rattle.machine.specs.Inputs.{Session}
use Rattle.first_looks.specs.declared.question.Question.{Question}
use Rattle.first_looks.specs.declared.question.Question.TheVariants.{Cell, Script, Host as OfHost}
use Rattle.machine.specs.Machine.{session_answers}
use Rattle.first_looks.specs.FirstLooks.{FirstLooksView, step_of}
use Rattle.replay.specs.Edits.{with_host_file}
use Rattle.replay.specs.Touch.{IsNotedTouch}

module _ (s : Session) (key : Key) (file : Option (List Record)) (k : FirstLooksView) (t : ℕ) where
  touched : IsFileTouch s.files (with_file s.files key file) k.files k.seen t → IsNotedTouch (session_answers s) (session_answers (with_host_file s key file)) k t
  touched w = record {
    within = w.within;
    below = below;
    here = elim w.here [ inl e ↦ inl e | inr h ↦ inr (OfHost h.0, h.1, h.2) ];
  } where
    below : (q : Question) (m : ℕ) → step_of k q ≡ Some m → m < t → session_answers s q ≡ session_answers (with_host_file s key file) q
    below (Cell a) m there low = refl
    below (Script j) m there low = refl
    below (OfHost a) m there low = w.below a m there low

  pub file_touched : (host : Host) (steps : FileSteps) (least : ℕ) → host ≡ s.files → steps ≡ k.files → least ≡ k.seen → IsFileTouch host (with_file host key file) steps least t
      → IsNotedTouch (session_answers s) (session_answers (with_host_file s key file)) k t
  file_touched host steps least same_host same_steps same_least w =
      touched (subst (λ (n : ℕ). IsFileTouch s.files (with_file s.files key file) k.files n t) same_least
      (subst (λ (f : FileSteps). IsFileTouch s.files (with_file s.files key file) f least t) same_steps
      (subst (λ (h : Host). IsFileTouch h (with_file h key file) steps least t) same_host w)))
