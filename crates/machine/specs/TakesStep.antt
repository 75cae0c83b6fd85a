-- A step over pages. (This project's own.)
use Rattle.std.specs.Prelude.{◌≡◌, Option, Some, None, IfOk, OnOk, OnErr, IfSome}
use Rattle.std.specs.declared.result.Result.{Result}
use Rattle.std.specs.declared.alloc.AllocError.{AllocError}
use Rattle.interaction_trees.specs.Outcome.{Outcome, Step, Stop}
use Rattle.i8080.specs.declared.registers.Regs.{Regs}
use Rattle.i8080.specs.Memory.{Memory}
use Rattle.pagemem.specs.declared.overlay.Overlay.{Overlay}
use Rattle.pagemem.specs.Overlay.{own_of, looks_of, parts_beneath}
use Rattle.console_calls.specs.declared.cause.Cause.{Cause}
use Rattle.std.specs.Borrow.{GName}
use Rattle.hostfiles.specs.declared.changes.Changes.{Changes}
use Rattle.file_calls.specs.TableView.{TableView}
use Rattle.machine.specs.Inputs.{Session}
use Rattle.machine.specs.StateView.{PartialState, AllLooks, StateView}
use Rattle.machine.specs.Session.{image_of}
use Rattle.machine.specs.Machine.{session_answers, outcome, looks_at, AddsLooks, KeepsLooks, AddsNoOtherLooks}
use Rattle.machine.specs.WrittenCells.{DeskAndFiles, state_with}

-- The host files of a session with what was done to them, whatever reference lends the latter.
abbrev pub drives_in : Session → Changes → GName → TableView
drives_in s c g = record { host = s.files; own = c.journal.entries; looks = c.looks; lender = g }

-- An overlay over the loaded image, as memory.
abbrev pub memory_over_image : Session → Overlay → Memory
memory_over_image s o = record { own = own_of o; beneath = image_of s; looks = looks_of o; lender = None }

-- The outcome of a result: `None` is a step to the state that is left, `Some` is a stop.
abbrev pub outcome_from : Option Cause → PartialState → Outcome PartialState Cause
outcome_from None st = Step st
outcome_from (Some cause) st = Stop cause

-- The looks of an overlay and devices.
abbrev pub looks_in : Overlay → DeskAndFiles → AllLooks
looks_in o d = record { cells = looks_of o; offsets = d.offsets; files = d.asks }

-- The state with its looks of registers, devices and an overlay.
abbrev pub view_with : Regs → DeskAndFiles → Overlay → StateView
view_with r d o = record { state = state_with r d (own_of o); looked = looks_in o d; beneath = parts_beneath o }

-- The effect of one step: the outcome of the state, and its looks. A stop and an error leave the state unchanged.
pub record TakesStep (s : Session) (old : StateView) (result : Result (Option Cause) AllocError) (new : StateView) : Type 0 where
  pub outcome : IfOk result (λ stop. outcome (session_answers s) old.state ≡ outcome_from stop new.state)
  pub stays : IfOk result (λ stop. IfSome stop (λ cause. new.state ≡ old.state))
  pub failed : OnErr result (new.state ≡ old.state)
  pub looked : OnOk result (AddsLooks old.looked (looks_at (session_answers s) old.state) new.looked)
  pub extends : KeepsLooks old.looked new.looked
  pub bounded : OnErr result (AddsNoOtherLooks old.looked (looks_at (session_answers s) old.state) new.looked)
