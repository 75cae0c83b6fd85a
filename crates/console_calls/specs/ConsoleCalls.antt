-- The BDOS calls that name no file: what each asks of the state, and what it then does.
-- ([Interface Guide 1979, functions 0 to 2, 6 to 14 and 24 to 26]; what stops a call, and in which order it asks: this
-- project's profile.)
use Rattle.std.specs.Prelude.{ℕ, ◌==◌, ◌+◌, is_some, if◌then◌else◌, List, [], ◌∷◌, Option, Some, None, suc, length, reverse}
use Rattle.interaction_trees.specs.Tree.{Return, Query}
use Rattle.i8080.specs.declared.registers.Regs.{Regs}
use Rattle.i8080.specs.Reading.{Done, Cell}
use Rattle.i8080.specs.Registers.{word, high, low, onward}
use Rattle.i8080.specs.Instruction.{word_at}
use Rattle.i8080.specs.End.{cells_from}
use Rattle.filenames.specs.Drives.{drive_at, drive_number}
use Rattle.filenames.specs.declared.drive.Drive.{Drive}
use Rattle.filenames.specs.declared.drive.Drive.TheVariants.{A}
use Rattle.console_calls.specs.declared.cause.Cause.{Cause}
use Rattle.console_calls.specs.declared.cause.Cause.TheVariants.{WarmBoot, ConsoleExhausted, NoDollar, Unsupported, BadDrive}
use Rattle.console_calls.specs.declared.desk.Spot.{Spot}
use Rattle.console_calls.specs.Desk.{printed_byte, echoed_byte, printed_bytes, spot_showing, column_after_all}
use Rattle.console_calls.specs.StateQuestions.{Input, StateTree, bind_reading, bind_tree}
use Rattle.console_calls.specs.Strings.{string_at}
use Rattle.console_calls.specs.Line.{LineEnd, Ended, Booted, Short, no_line, line_tree}

-- The cells that a call wrote, each with its byte, in order.
pub record CallWrites : Type 0 where
  pub cells : List (ℕ × ℕ)

abbrev pub no_writes : CallWrites
no_writes = record { cells = [] }

-- The end of a call: it returned to its caller with these registers and this spot, after it sent these bytes and wrote these
-- cells; or it stopped and changed nothing.
pub data CallEnd : Type 0 where
  Completed : Regs → Spot → List ℕ → CallWrites → CallEnd
  Stopped : Cause → CallEnd

-- The registers back at the caller, at an address, with a value: HL is the value, A is L and B is H, and the stack is popped.
-- [Interface Guide 1979, operating system call conventions]
abbrev pub at_caller : ℕ → ℕ → Regs → Regs
at_caller value to r = record r { a = low value; b = high value; h = high value; l = low value; sp = onward r.sp 2; pc = to }

-- A call that reads the return address and is completed with a value, this spot, these bytes sent and these cells written.
abbrev pub completion : ℕ → Regs → Spot → List ℕ → CallWrites → StateTree CallEnd
completion value r spot bytes written = bind_reading (word_at r.sp Done) (λ to. Return (Completed (at_caller value to r) spot bytes written))

-- Function 1 takes the script byte at the cursor, echoes it if it is graphic or one of CR, LF, tab and backspace, and returns it;
-- at the end of the script it stops. [Interface Guide 1979, function 1]
abbrev pub input_call : Regs → Spot → Option ℕ → StateTree CallEnd
input_call r spot None = Return (Stopped ConsoleExhausted)
input_call r spot (Some byte) = let s = echoed_byte spot.column byte in completion byte r (record spot { cursor = spot.cursor + 1; column = s.column }) s.bytes no_writes

abbrev pub console_input : Regs → Spot → StateTree CallEnd
console_input r spot = Query (Input spot.cursor) (input_call r spot)

-- Function 6: with 0FFH in E it takes the script byte at the cursor and returns it, or returns 0 if none is left; with another E
-- it sends E and leaves the column unchanged. [Interface Guide 1979, function 6]
abbrev pub direct_input_call : Regs → Spot → Option ℕ → StateTree CallEnd
direct_input_call r spot None = completion 0 r spot [] no_writes
direct_input_call r spot (Some byte) = completion byte r (record spot { cursor = spot.cursor + 1 }) [] no_writes

abbrev pub direct_input : Regs → Spot → StateTree CallEnd
direct_input r spot = Query (Input spot.cursor) (direct_input_call r spot)

abbrev pub direct_output : Regs → Spot → StateTree CallEnd
direct_output r spot = completion 0 r spot (r.e ∷ []) no_writes

abbrev pub direct_console : Regs → Spot → StateTree CallEnd
direct_console r spot = if r.e == 0xff then direct_input r spot else direct_output r spot

-- Function 11 returns whether a byte of the script is left. [Interface Guide 1979, function 11]
abbrev pub console_status : Regs → Spot → StateTree CallEnd
console_status r spot = Query (Input spot.cursor) (λ answer. completion (if is_some answer then 0xff else 0) r spot [] no_writes)

-- Function 10 reads the capacity at DE, then takes the line from the script, then reads the return address. The count goes to the
-- cell after the capacity, the text to those after it. A warm boot and the end of the script stop the call.
-- [Interface Guide 1979, function 10]
abbrev pub line_cells : ℕ → List ℕ → List (ℕ × ℕ)
line_cells at text = (onward at 1, length text) ∷ cells_from (onward at 2) text

abbrev pub line_end_call : Regs → Spot → LineEnd → StateTree CallEnd
line_end_call r spot Short = Return (Stopped ConsoleExhausted)
line_end_call r spot Booted = Return (Stopped WarmBoot)
line_end_call r spot (Ended l k) = completion 0 r (record spot { cursor = k; column = column_after_all spot.column l.sends }) l.sends (record { cells = line_cells (word r.e r.d) (reverse l.stored) })

abbrev pub line_input : ℕ → Regs → Spot → StateTree CallEnd
line_input n r spot = bind_reading (Cell (word r.e r.d) Done) (λ capacity. bind_tree (line_tree (suc n) capacity spot.cursor no_line) (line_end_call r spot))

-- Function 2 prints E. [Interface Guide 1979, function 2]
abbrev pub console_output : Regs → Spot → StateTree CallEnd
console_output r spot = let s = printed_byte spot.column r.e in completion 0 r (spot_showing spot s) s.bytes no_writes

-- Function 9 prints the string at DE, which it reads after the return address; a string without `$` stops the call.
-- [Interface Guide 1979, function 9]
abbrev pub print_call : Regs → Spot → ℕ → Option (List ℕ) → CallEnd
print_call r spot to None = Stopped NoDollar
print_call r spot to (Some string) = let s = printed_bytes spot.column string in Completed (at_caller 0 to r) (spot_showing spot s) s.bytes no_writes

abbrev pub string_output : Regs → Spot → StateTree CallEnd
string_output r spot = bind_reading (word_at r.sp Done) (λ to. bind_reading (string_at 65536 (word r.e r.d)) (λ string. Return (print_call r spot to string)))

-- Functions 7 and 8 return and set the I/O byte, at 0003H. [Interface Guide 1979, functions 7 and 8]
abbrev pub io_byte_address : ℕ
io_byte_address = 0x0003

abbrev pub get_io_byte : Regs → Spot → StateTree CallEnd
get_io_byte r spot = bind_reading (Cell io_byte_address Done) (λ byte. completion byte r spot [] no_writes)

abbrev pub set_io_byte : Regs → Spot → StateTree CallEnd
set_io_byte r spot = completion 0 r spot [] (record { cells = (io_byte_address, r.e) ∷ [] })

-- Function 12 returns the version, 2.2. [Interface Guide 1979, function 12]
abbrev pub version_number : Regs → Spot → StateTree CallEnd
version_number r spot = completion 0x0022 r spot [] no_writes

-- Function 13 selects the first drive and the buffer in page zero. [Interface Guide 1979, function 13]
abbrev pub reset_disks : Regs → Spot → StateTree CallEnd
reset_disks r spot = completion 0 r (record spot { buffer = 0x80; drive = A }) [] no_writes

-- Function 14 sets the current drive, 0 to 3 for A to D; another number stops the call. ([Interface Guide 1979, function 14]; the
-- stop is this project's profile)
abbrev pub select_call : Regs → Spot → Option Drive → StateTree CallEnd
select_call r spot None = Return (Stopped (BadDrive r.e))
select_call r spot (Some drive) = completion 0 r (record spot { drive = drive }) [] no_writes

abbrev pub select_disk : Regs → Spot → StateTree CallEnd
select_disk r spot = select_call r spot (drive_at r.e)

-- Function 24 returns a bit for each drive, from A on. [Interface Guide 1979, function 24]
abbrev pub login_vector : Regs → Spot → StateTree CallEnd
login_vector r spot = completion 0x000f r spot [] no_writes

-- Function 25 returns the current drive. [Interface Guide 1979, function 25]
abbrev pub current_disk : Regs → Spot → StateTree CallEnd
current_disk r spot = completion (drive_number spot.drive) r spot [] no_writes

-- Function 26 sets the buffer address to DE. [Interface Guide 1979, function 26]
abbrev pub set_buffer_address : Regs → Spot → StateTree CallEnd
set_buffer_address r spot = completion 0 r (record spot { buffer = word r.e r.d }) [] no_writes

-- The call with a number, over a script of at most n bytes; any other number stops.
-- ([Interface Guide 1979, system function summary]; which of its calls are there: this project's profile)
abbrev pub call_of_number : ℕ → ℕ → Regs → Spot → StateTree CallEnd
call_of_number n number r spot =
    if number == 0 then Return (Stopped WarmBoot)
    else if number == 1 then console_input r spot
    else if number == 2 then console_output r spot
    else if number == 6 then direct_console r spot
    else if number == 7 then get_io_byte r spot
    else if number == 8 then set_io_byte r spot
    else if number == 9 then string_output r spot
    else if number == 10 then line_input n r spot
    else if number == 11 then console_status r spot
    else if number == 12 then version_number r spot
    else if number == 13 then reset_disks r spot
    else if number == 14 then select_disk r spot
    else if number == 24 then login_vector r spot
    else if number == 25 then current_disk r spot
    else if number == 26 then set_buffer_address r spot
    else Return (Stopped (Unsupported number))

-- The call whose number is in C.
unfoldable pub console_call : ℕ → Regs → Spot → StateTree CallEnd
console_call n r spot = call_of_number n r.c r spot
