-- What a step asks, and what it makes of the answers. ([8080 manual 1975, chapter 4]; [Interface Guide 1979, page zero]; why a
-- run stops, and where the system area is: this project's profile.)
use Rattle.std.specs.Prelude.{◌≡◌, ℕ, ◌==◌, Bool, nat_le, nat_lt, if◌then◌else◌, refl, false, List, [], ◌++◌}
use Rattle.interaction_trees.specs.Tree.{Return, map_result}
use Rattle.i8080.specs.declared.registers.Regs.{Regs}
use Rattle.i8080.specs.End as end
use Rattle.i8080.specs.Instruction.{instruction}
use Rattle.console_calls.specs.declared.cause.Cause.{Cause}
use Rattle.console_calls.specs.declared.cause.Cause.TheVariants.{WarmBoot, Halt, Undefined, SystemArea}
use Rattle.console_calls.specs.declared.desk.Spot.{Spot}
use Rattle.console_calls.specs.Desk.{Desk, first_desk}
use Rattle.console_calls.specs.ConsoleCalls.{CallWrites}
use Rattle.console_calls.specs.ConsoleCalls as calls
use Rattle.file_calls.specs.Changes.{FileChange, Unchanged}
use Rattle.bdos.specs.SystemQuestions.{SystemTree, bind_reading}
use Rattle.bdos.specs.FileCalls.{SystemEnd}
use Rattle.bdos.specs.SystemCalls.{call}
use Rattle.machine.specs.declared.session.TheConstants.{SCRIPT_LIMIT}
use Rattle.machine.specs.Inputs.{Core}

-- The registers of a loaded program. (That it begins at 0100H: [Interface Guide 1979, transient program area])
abbrev pub first_regs : Regs
first_regs = record { a = 0; b = 0; c = 0; d = 0; e = 0; h = 0; l = 0; sp = 0xfdfe; pc = 0x0100; flags = record { s = false; z = false; ac = false; p = false; cy = false } }

-- What the first step depends on.
abbrev pub first_core : Core
first_core = record { regs = first_regs; desk = first_desk }

-- The desk with a spot, after more bytes were sent.
abbrev pub desk_with : Desk → Spot → List ℕ → Desk
desk_with d spot bytes = record { spot = spot; text = d.text ++ bytes }

-- The end of a step: the run continues with these registers and this spot, after it sent these bytes, wrote these cells and did
-- this to the files; or it stops, and nothing is changed.
pub data StepEnd : Type 0 where
  Went : Regs → Spot → List ℕ → CallWrites → FileChange → StepEnd
  Stopped : Cause → StepEnd

-- The end of an instruction: HLT and a byte that is not an opcode stop. (Which bytes are opcodes:
-- [8080 manual 1975, chapter 4, instruction set])
abbrev pub step_end_of : Spot → end.End → StepEnd
step_end_of spot (end.Went r writes) = Went r spot [] (record { cells = writes }) Unchanged
step_end_of spot end.Halt = Stopped Halt
step_end_of spot (end.Undefined byte) = Stopped (Undefined byte)

-- The end of a call.
abbrev pub step_end_with : calls.CallEnd → FileChange → StepEnd
step_end_with (calls.Completed r spot bytes written) change = Went r spot bytes written change
step_end_with (calls.Stopped cause) change = Stopped cause

abbrev pub step_end_of_call : SystemEnd → StepEnd
step_end_of_call e = step_end_with e.0 e.1

-- The maximum length of a script. Not unfolded by default, so that no proof counts up to it.
pub script_limit : ℕ
script_limit = SCRIPT_LIMIT

pub script_limit-is : script_limit ≡ SCRIPT_LIMIT
unfolding script_limit
script_limit-is = refl

-- The address of the BDOS, and the first one of the system's area. (This project's profile.)
abbrev pub bdos_entry : ℕ
bdos_entry = 0xfe06

abbrev pub system_area : ℕ
system_area = 0xfe00

-- A call is at the address of the BDOS, and an instruction below the system's area.
abbrev pub is_call : Core → Bool
is_call c = c.regs.pc == bdos_entry

abbrev pub is_instruction : Core → Bool
is_instruction c = nat_lt c.regs.pc system_area

-- What a step asks of the state, and what it makes of the answers: the first line that applies decides. (That a jump to 0000H is
-- the warm start and a call to 0005H the BDOS: [Interface Guide 1979, page zero]. From there page zero leads to 0FF03H and to
-- the address of the BDOS.)
unfoldable pub next : Core → SystemTree StepEnd
next c =
    if c.regs.pc == 0xff03 then Return (Stopped WarmBoot)
    else if is_call c then map_result step_end_of_call (call script_limit c.regs c.desk.spot)
    else if nat_le system_area c.regs.pc then Return (Stopped (SystemArea c.regs.pc))
    else bind_reading (instruction c.regs) (λ e. Return (step_end_of c.desk.spot e))
