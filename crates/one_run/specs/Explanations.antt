-- The line that says where a run stopped, and what to do. (This project's own.)
use Rattle.std.specs.Prelude.{ℕ, ◌+◌, ◌-◌, ◌*◌, ◌/◌, ◌%◌, ◌==◌, ◌&&◌, ◌||◌, Bool, List, [], ◌∷◌, ◌++◌, codes, if◌then◌else◌, min, max, nat_lt, slice_index}
use Rattle.std.specs.Fmt.{decimal}
use Rattle.i8080.specs.Registers.{onward, word}
use Rattle.machine.specs.Cause.{Cause}
use Rattle.machine.specs.Cause.TheVariants.{WarmBoot, Halt, Limit, Undefined, SystemArea, ConsoleExhausted, NoDollar, Unsupported, BadDrive}
use Rattle.machine.specs.PlainState.{PlainRun, PlainState, plain_run}
use Rattle.machine.specs.declared.session.TheConstants.{STEP_LIMIT}
use Rattle.machine.specs.declared.whole_run.WholeRun.{WholeRun}
pub use Rattle.report_lines.specs.FirstLines.{line, word_text}
use Rattle.one_run.specs.SystemNames.{name_text}

-- The plain machine at the end of a run.
abbrev pub end_of : WholeRun → PlainState
end_of run = (plain_run run.session.now).state

abbrev pub word_in : PlainState → ℕ → ℕ
word_in w at = word (slice_index w.memory at) (slice_index w.memory (onward at 1))

-- Whether a byte is the opcode of CALL, or of CALL on a condition, 11CCC100 in binary. [8080 manual 1975, chapter 4, instruction set]
abbrev pub is_call : ℕ → Bool
is_call byte = byte == 0xcd || byte / 64 == 3 && byte % 8 == 4

-- Whether there is a CALL at an address, of the address at which the run stopped or of 0005H, where the jump to the BDOS is.
-- [Interface Guide 1979, page zero]
unfoldable pub is_system_call : PlainState → ℕ → Bool
is_system_call w at = let to = word_in w (onward at 1) in is_call (slice_index w.memory at) && (to == w.core.regs.pc || to == 0x0005)

-- Where the last call was made: three bytes before the address on the top of the stack, to which it would return.
abbrev pub origin_of : PlainState → ℕ → ℕ → List ℕ
origin_of w from to = if is_system_call w from then codes "from " ++ word_text from else codes "to return to " ++ word_text to

unfoldable pub origin : PlainState → List ℕ
origin w = let to = word_in w w.core.regs.sp in origin_of w (onward to 65533) to

-- ---- the parts of the lines

unfoldable pub larger_limit : ℕ → ℕ
larger_limit steps = min STEP_LIMIT (10 * max 1 steps)

unfoldable pub advice_text : ℕ → List ℕ
advice_text steps = if nat_lt steps STEP_LIMIT then codes "; --limit " ++ decimal (larger_limit steps) ++ codes " lets it run on" else []

unfoldable pub limit_text : ℕ → ℕ → List ℕ
limit_text steps at = codes "after " ++ decimal steps ++ codes " steps, at " ++ word_text at ++ advice_text steps

unfoldable pub call_text : PlainState → List ℕ
call_text w = codes "call " ++ decimal w.core.regs.c ++ codes " " ++ origin w ++ codes ": "

unfoldable pub exhausted_text : Bool → List ℕ
exhausted_text keeps_disk =
    codes "the program waits for a key, and the console input has no more; give it by --typed or --console"
    ++ (if keeps_disk then codes " (--partial changes the disk all the same)" else [])

-- Call 14 is given the number of a drive, 0 for A, and a control block has one more. [Interface Guide 1979, function 14 and file control blocks]
abbrev pub drive_text : ℕ → ℕ → List ℕ
drive_text call number =
    let drive = if call == 14 then number else number - 1 in
    if nat_lt drive 16 then codes "drive " ++ (65 + drive) ∷ [] else codes "no drive"

-- ---- the line of each cause

abbrev pub words_of : Bool → ℕ → PlainState → Cause → List ℕ
words_of keeps_disk steps w WarmBoot = []
words_of keeps_disk steps w Limit = limit_text steps w.core.regs.pc
words_of keeps_disk steps w Halt = codes "HLT at " ++ word_text w.core.regs.pc
words_of keeps_disk steps w (Undefined byte) = codes "at " ++ word_text w.core.regs.pc ++ codes "; Z80 programs have such opcodes, and this is an 8080"
words_of keeps_disk steps w (SystemArea address) =
    codes "called " ++ origin w ++ codes ": " ++ name_text address (codes " of the BIOS, which is not here") (codes "no entry of the BIOS")
words_of keeps_disk steps w NoDollar = call_text w ++ codes "no $ from " ++ word_text (word w.core.regs.e w.core.regs.d) ++ codes " on"
words_of keeps_disk steps w ConsoleExhausted = call_text w ++ exhausted_text keeps_disk
words_of keeps_disk steps w (Unsupported number) = call_text w ++ name_text number [] (codes "no call of CP/M 2.2")
words_of keeps_disk steps w (BadDrive number) = call_text w ++ drive_text w.core.regs.c number

unfoldable pub words : Bool → PlainRun → List ℕ
words keeps_disk r = words_of keeps_disk r.steps r.state r.cause

abbrev pub line_of : Cause → List ℕ → List ℕ
line_of WarmBoot words = []
line_of other words = line words

-- The line, or none after a warm start.
unfoldable pub explanation : Bool → PlainRun → List ℕ
explanation keeps_disk r = line_of r.cause (words keeps_disk r)
