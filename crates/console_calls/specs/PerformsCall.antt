-- The effect of a function that executes a call. (This project's own.)
use Rattle.std.specs.Prelude.{◌≡◌, ℕ, ◌||◌, Bool, List, ◌++◌, IfOk, OnOk, OnErr}
use Rattle.std.specs.declared.result.Result.{Result}
use Rattle.std.specs.declared.alloc.AllocError.{AllocError}
use Rattle.interaction_trees.specs.Tree.{result_of, questions_of}
use Rattle.i8080.specs.declared.registers.Regs.{Regs}
use Rattle.i8080.specs.Memory.{Memory, Own, Extends, is_among, bytes, look_all, write_all}
use Rattle.console_calls.specs.declared.served.Served.{Served}
use Rattle.console_calls.specs.declared.served.Served.TheVariants as served
use Rattle.console_calls.specs.declared.desk.Spot.{Spot}
use Rattle.console_calls.specs.Desk.{Desk}
use Rattle.console_calls.specs.ScriptLooks.{DeskLooks, is_within}
use Rattle.console_calls.specs.StateQuestions.{StateAnswers, StateTree, answers, addresses, script_offsets}
use Rattle.console_calls.specs.ConsoleCalls.{CallEnd, Completed, Stopped}

abbrev pub served_of : CallEnd → Served
served_of (Completed r spot bytes written) = served.Went
served_of (Stopped cause) = served.Stop cause

abbrev pub regs_after : CallEnd → Regs → Regs
regs_after (Completed r spot bytes written) old = r
regs_after (Stopped cause) old = old

abbrev pub desk_after : CallEnd → Desk → Desk
desk_after (Completed r spot bytes written) old = record { spot = spot; text = old.text ++ bytes }
desk_after (Stopped cause) old = old

abbrev pub own_after : CallEnd → Own → Own
own_after (Completed r spot bytes written) own = write_all own written.cells
own_after (Stopped cause) own = own

-- The state of a call: registers, memory, desk, and for each script offset whether it was looked at.
pub record Scene : Type 0 where
  pub regs : Regs
  pub memory : Memory
  pub desk : Desk
  pub looked : ℕ → Bool

abbrev pub scene : Regs → Memory → DeskLooks → Scene
scene r m d = record { regs = r; memory = m; desk = d.desk; looked = is_within d.looks }

-- The end of a call, and the cells and the script offsets that it asks for on the way.
pub record CallPath : Type 0 where
  pub end : CallEnd
  pub cells : List ℕ
  pub offsets : List ℕ

-- The path through a tree of questions.
abbrev pub path_by : StateAnswers → StateTree CallEnd → CallPath
path_by f t = record { end = result_of f t; cells = addresses (questions_of f t); offsets = script_offsets (questions_of f t) }

-- A call that was executed: what its end says was done, and exactly what it asked for was looked at.
pub record ExecutesCall (p : CallPath) (old new : Scene) : Type 0 where
  pub regs : new.regs ≡ regs_after p.end old.regs
  pub desk : new.desk ≡ desk_after p.end old.desk
  pub own : new.memory.own ≡ own_after p.end old.memory.own
  pub looks : new.memory.looks ≡ look_all old.memory.own p.cells old.memory.looks
  pub looked : (k : ℕ) → new.looked k ≡ (old.looked k || is_among k p.offsets)

-- A call that ran out of memory: nothing was changed, and some of the cells that the whole call asks for were looked at.
pub record AddsOnlyLooks (cells : List ℕ) (old new : Scene) : Type 0 where
  pub regs : new.regs ≡ old.regs
  pub desk : new.desk ≡ old.desk
  pub own : new.memory.own ≡ old.memory.own
  pub looked : (k : ℕ) → new.looked k ≡ old.looked k
  pub looks : Extends old.memory.looks new.memory.looks
  pub bound : Extends new.memory.looks (look_all old.memory.own cells old.memory.looks)

-- The effect of a function that executes the call of a path.
pub record PerformsCall (p : CallPath) (old : Scene) (result : Result Served AllocError) (new : Scene) : Type 0 where
  pub served : IfOk result (λ s. s ≡ served_of p.end)
  pub executed : OnOk result (ExecutesCall p old new)
  pub failed : OnErr result (AddsOnlyLooks p.cells old new)
  pub beneath : new.memory.beneath ≡ old.memory.beneath
  pub lender : new.memory.lender ≡ old.memory.lender

-- The effect of a function that executes a call over a script.
abbrev pub MakesCall : (Regs → Spot → StateTree CallEnd) → List ℕ → Scene → Result Served AllocError → Scene → Type 0
MakesCall call script old result new = PerformsCall (path_by (answers (bytes old.memory) script) (call old.regs old.desk.spot)) old result new
