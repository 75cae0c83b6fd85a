-- The line of a call. (This project's profile.)
use Rattle.std.specs.Prelude.{ℕ, ◌==◌, ◌*◌, ◌+◌, ◌-◌, List, [], ◌∷◌, ◌++◌, codes, length, map, take, drop, slice_index, nat_lt, if◌then◌else◌}
use Rattle.std.specs.List.{range_with_len}
use Rattle.std.specs.Fmt.{decimal}
use Rattle.interaction_trees.specs.Outcome.{Outcome, Step, Stop}
use Rattle.i8080.specs.Registers.{onward, word}
use Rattle.console_calls.specs.declared.cause.Cause.{Cause}
use Rattle.filenames.specs.ControlBlock.{name_at, place_of}
use Rattle.filenames.specs.Drives.{drive_number}
use Rattle.machine.specs.PlainState.{PlainState}
use Rattle.machine.specs.Regs.{Regs}
use Rattle.report_lines.specs.FirstLines.{byte_text, word_text, line}
use Rattle.trace_lines.specs.CallForms.{call_name, argument_of, is_read, returned_of}
use Rattle.trace_lines.specs.Texts.{escaped, name_text}
use Rattle.trace_lines.specs.declared.forms.Argument.{Argument}
use Rattle.trace_lines.specs.declared.forms.Argument.TheVariants as argument
use Rattle.trace_lines.specs.declared.forms.Returned.{Returned}
use Rattle.trace_lines.specs.declared.forms.Returned.TheVariants as returned

-- ---- what a call is given

-- The address in DE, and the control block there, which may begin again at 0000H.
abbrev pub address_in : Regs → ℕ
address_in r = word r.e r.d

unfoldable pub block_in : PlainState → List ℕ
block_in w = map (λ i. slice_index w.memory (onward (address_in w.core.regs) i)) (range_with_len 0 36)

-- The number of the drive that the control block names, 0 for A. From 4 on there is no such drive.
abbrev pub drive_in : PlainState → ℕ
drive_in w = if slice_index (block_in w) 0 == 0 then drive_number w.core.desk.spot.drive else slice_index (block_in w) 0 - 1

-- A file of the control block, by the drive and the eleven bytes of a name.
unfoldable pub file_text : PlainState → List ℕ → List ℕ
file_text w name = name_text (drive_in w ∷ name)

-- A record number, and the buffer that gets the record or has it.
abbrev pub record_text : PlainState → ℕ → List ℕ
record_text w number =
    codes " record " ++ decimal number
    ++ (if is_read w.core.regs.c then codes " to " else codes " from ") ++ word_text w.core.desk.spot.buffer

-- The random record number, with its overflow byte.
abbrev pub whole_place_of : List ℕ → ℕ
whole_place_of block = slice_index block 33 + 256 * slice_index block 34 + 65536 * slice_index block 35

-- What is shown of a control block after its file.
abbrev pub block_text : Argument → PlainState → List ℕ
block_text argument.Renaming w = codes " to " ++ file_text w (name_at (block_in w) 17)
block_text argument.NextRecord w = record_text w (place_of (block_in w))
block_text argument.ChosenRecord w = record_text w (whole_place_of (block_in w))
block_text other w = []

abbrev pub argument_text : Argument → PlainState → List ℕ
argument_text argument.Nothing w = []
argument_text argument.Byte w = codes " " ++ byte_text w.core.regs.e
argument_text argument.Word w = codes " " ++ word_text (address_in w.core.regs)
argument_text other w = codes " " ++ file_text w (name_at (block_in w) 1) ++ block_text other w

-- ---- what a call returns and prints

abbrev pub returned_text : Returned → Regs → List ℕ
returned_text returned.Nothing r = []
returned_text returned.Byte r = codes " = " ++ byte_text r.a
returned_text returned.Word r = codes " = " ++ word_text (word r.l r.h)

-- The bytes that a call sent, the first 64 of them if there are more, and then their count.
abbrev pub count_text : ℕ → List ℕ
count_text n = if nat_lt 64 n then codes " of " ++ decimal n ++ codes " bytes" else []

abbrev pub printed_text : List ℕ → List ℕ
printed_text [] = []
printed_text (b ∷ bs) = codes " \"" ++ escaped (take 64 (b ∷ bs)) ++ codes "\"" ++ count_text (length (b ∷ bs))

-- ---- the line

-- What a line shows before its call is executed, and after it. A call that stops the run returns and prints nothing.
abbrev pub call_start : ℕ → PlainState → List ℕ
call_start n w =
    codes "step " ++ decimal n ++ codes " call " ++ decimal w.core.regs.c ++ codes " " ++ call_name w.core.regs.c
    ++ argument_text (argument_of w.core.regs.c) w

unfoldable pub call_end : PlainState → Outcome PlainState Cause → List ℕ
call_end w (Step w') =
    returned_text (returned_of w.core.regs.c) w'.core.regs
    ++ printed_text (drop (length w.core.desk.text) w'.core.desk.text)
call_end w (Stop cause) = []

unfoldable pub call_line : ℕ → PlainState → Outcome PlainState Cause → List ℕ
call_line n w next = line (call_start n w ++ call_end w next)
