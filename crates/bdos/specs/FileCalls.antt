-- The calls of files: the control block is read, the files are asked, and then the call is executed.
-- ([Interface Guide 1979, functions 15 to 23, 33 to 36 and 40]; what a drive that is not there does, which bytes of the control
-- block are written, and in which order: this project's profile.)
use Rattle.std.specs.Prelude.{ℕ, zero, suc, ◌-◌, ◌/◌, ◌%◌, ◌==◌, List, [], ◌∷◌, ◌++◌, Option, Some, None, if◌then◌else◌, replicate}
use Rattle.interaction_trees.specs.Tree.{Return}
use Rattle.i8080.specs.declared.registers.Regs.{Regs}
use Rattle.i8080.specs.Reading.{Reading, Done, Cell}
use Rattle.i8080.specs.Registers.{word, onward}
use Rattle.i8080.specs.Instruction.{word_at}
use Rattle.i8080.specs.End.{cells_from}
use Rattle.filenames.specs.Drives.{drive_at}
use Rattle.filenames.specs.declared.drive.Drive.{Drive}
use Rattle.console_calls.specs.declared.cause.Cause.TheVariants.{BadDrive}
use Rattle.console_calls.specs.declared.desk.Spot.{Spot}
use Rattle.console_calls.specs.Strings.{ending}
use Rattle.console_calls.specs.ConsoleCalls.{CallEnd, Completed, Stopped, at_caller}
use Rattle.hostfiles.specs.Hosts.{Key}
use Rattle.file_calls.specs.declared.block.Block.{Block}
use Rattle.file_calls.specs.declared.function.FileFunction.{FileFunction}
use Rattle.file_calls.specs.declared.finding.Finding.{Finding}
use Rattle.file_calls.specs.declared.finding.Finding.TheVariants as finding
use Rattle.file_calls.specs.Findings.{finding_of, block_length, deletion, search_next}
use Rattle.file_calls.specs.Changes.{is_some_named}
use Rattle.file_calls.specs.Changes.{FileChange, Unchanged, Made, Deleted, Renamed, Stored}
use Rattle.bdos.specs.SystemQuestions.{SystemTree, bind_reading, bind_files}

-- How a call ends, and what it does to files.
abbrev pub SystemEnd : Type 0
SystemEnd = CallEnd × FileChange

-- The bytes of n cells.
unfoldable pub bytes_at : ℕ → ℕ → Reading (List ℕ)
bytes_at zero at = Done []
bytes_at (suc n) at = Cell at (λ byte. ending (λ rest. byte ∷ rest) (bytes_at n (onward at 1)))

-- The drive that the first byte of a control block names: 0 is the current one, 1 to 4 are A to D.
-- ([Interface Guide 1979, file control blocks]; other drives are not there in this project's profile)
abbrev pub drive_of_byte : Drive → ℕ → Option Drive
drive_of_byte current dr = if dr == 0 then Some current else drive_at (dr - 1)

-- A control block of 33 or 36 bytes, whose drive byte was already read.
unfoldable pub block_reading : Drive → ℕ → ℕ → ℕ → Reading Block
block_reading drive dr length at = ending (λ rest. record { drive = drive; fcb = dr ∷ rest ++ replicate (36 - length) 0 }) (bytes_at (length - 1) (onward at 1))

-- A call that returns a value and sends nothing.
abbrev pub return_with : ℕ → Regs → Spot → ℕ → List (ℕ × ℕ) → FileChange → SystemTree SystemEnd
return_with value r spot to cells change = Return (Completed (at_caller value to r) spot [] (record { cells = cells }), change)

-- The three bytes that hold a sequential record number of at most 65,536.
abbrev pub place_cells : ℕ → ℕ → List (ℕ × ℕ)
place_cells at number = (onward at 12, number / 128 % 32) ∷ (onward at 14, number / 4096 % 256) ∷ (onward at 32, number % 128) ∷ []

-- The three bytes that hold a random record number, the low byte first.
unfoldable pub random_bytes : ℕ → List ℕ
random_bytes number = number % 256 ∷ (number / 256 % 256) ∷ (number / 65536 % 256) ∷ []

abbrev pub random_cells : ℕ → ℕ → List (ℕ × ℕ)
random_cells at number = cells_from (onward at 33) (random_bytes number)

-- The bytes 13 to 31 of a control block that is opened at an extent with this record count, and of one whose file is made.
unfoldable pub opened_bytes : ℕ → List ℕ
opened_bytes count = 0 ∷ 0 ∷ count ∷ replicate 16 0

unfoldable pub made_bytes : List ℕ
made_bytes = replicate 19 0

-- The bytes of a directory record with this first entry; the other entries are unused.
abbrev pub directory_record : List ℕ → List ℕ
directory_record entry = entry ++ replicate 96 0xe5

-- What a call does with what it found: it writes the buffer first, and then the control block.
abbrev pub call_with_finding : Finding → Regs → Spot → ℕ → SystemTree SystemEnd
call_with_finding (finding.Value value) r spot to = return_with value r spot to [] Unchanged
call_with_finding (finding.Opened count) r spot to = return_with 0 r spot to (cells_from (onward (word r.e r.d) 13) (opened_bytes count)) Unchanged
call_with_finding (finding.FirstEntry s) r spot to = return_with 0 r (record spot { search = Some s }) to (cells_from spot.buffer (directory_record s.last)) Unchanged
call_with_finding finding.NoEntry r spot to = return_with 0xff r (record spot { search = None }) to [] Unchanged
call_with_finding (finding.Found bytes next) r spot to = return_with 0 r spot to (cells_from spot.buffer bytes ++ place_cells (word r.e r.d) next) Unchanged
call_with_finding (finding.Write w) r spot to = bind_reading (bytes_at 128 spot.buffer) (λ bytes. return_with 0 r spot to (place_cells (word r.e r.d) w.next) (Stored w bytes))
call_with_finding (finding.Make key) r spot to = return_with 0 r spot to (cells_from (onward (word r.e r.d) 13) made_bytes) (Made key)
call_with_finding (finding.Rename old new) r spot to = return_with 0 r spot to [] (Renamed old new)
call_with_finding (finding.Length n) r spot to = return_with 0 r spot to (random_cells (word r.e r.d) n) Unchanged
call_with_finding finding.NoLength r spot to = return_with 0xff r spot to (random_cells (word r.e r.d) 0) Unchanged
call_with_finding (finding.RandomPlace number) r spot to = return_with 0 r spot to (random_cells (word r.e r.d) number) Unchanged

-- A call with a control block reads the drive byte first; if that names no drive, the call stops. Then it reads the rest of the
-- control block, and then the return address.
abbrev pub call_on_drive : ℕ → Regs → Spot → ℕ → (Block → ℕ → SystemTree SystemEnd) → Option Drive → SystemTree SystemEnd
call_on_drive length r spot dr k None = Return (Stopped (BadDrive dr), Unchanged)
call_on_drive length r spot dr k (Some drive) =
    bind_reading (block_reading drive dr length (word r.e r.d)) (λ block. bind_reading (word_at r.sp Done) (λ to. k block to))

abbrev pub call_with_block : ℕ → Regs → Spot → (Block → ℕ → SystemTree SystemEnd) → SystemTree SystemEnd
call_with_block length r spot k = bind_reading (Cell (word r.e r.d) Done) (λ dr. call_on_drive length r spot dr k (drive_of_byte spot.drive dr))

abbrev pub file_call : FileFunction → Regs → Spot → SystemTree SystemEnd
file_call f r spot = call_with_block (block_length f) r spot (λ b to. bind_files (finding_of f b) (λ x. call_with_finding x r spot to))

-- Function 19 returns 0 if a file was deleted, else 0FFH.
abbrev pub deletion_value : List Key → ℕ
deletion_value names = if is_some_named names then 0 else 0xff

abbrev pub delete_call : Regs → Spot → SystemTree SystemEnd
delete_call r spot = call_with_block 33 r spot (λ b to. bind_files (deletion b) (λ names. return_with (deletion_value names) r spot to [] (Deleted names)))

-- Function 18 reads no control block.
abbrev pub search_next_call : Regs → Spot → SystemTree SystemEnd
search_next_call r spot = bind_reading (word_at r.sp Done) (λ to. bind_files (search_next spot.search) (λ x. call_with_finding x r spot to))
