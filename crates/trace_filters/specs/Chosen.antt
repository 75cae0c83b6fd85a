-- Which steps have a line. (This project's profile.)
use Rattle.std.specs.Prelude.{ℕ, ◌==◌, ◌&&◌, ◌||◌, Bool, true, false, List, ◌∷◌, slice_index, nat_le, Option, Some, None}
use Rattle.directory.specs.Entries.{is_match}
use Rattle.filenames.specs.ControlBlock.{name_at}
use Rattle.filenames.specs.Drives.{drive_number}
use Rattle.filenames.specs.Names.{Key}
use Rattle.filenames.specs.declared.drive.Drive.{Drive}
use Rattle.bdos.specs.FileCalls.{drive_of_byte}
use Rattle.machine.specs.Inputs.{Session}
use Rattle.machine.specs.PlainState.{PlainState}
use Rattle.machine.specs.Step.{is_call, is_instruction}
use Rattle.trace_filters.specs.declared.choice.Choice.{Choice}
use Rattle.trace_lines.specs.CallForms.{argument_of}
use Rattle.trace_lines.specs.CallLines.{block_in}
use Rattle.trace_lines.specs.declared.forms.Argument.{Argument}
use Rattle.trace_lines.specs.declared.forms.Argument.TheVariants as argument
use Rattle.accesses.specs.Accesses.{read_cells, written_cells}
use Rattle.accesses.specs.Ranges.{passes_cells}

abbrev pub passes_address : Option ℕ → ℕ → Bool
passes_address None pc = true
passes_address (Some at) pc = pc == at

-- Whether eleven bytes on a drive are a file's name, or a pattern that matches it.
abbrev pub names : Option Drive → List ℕ → Key → Bool
names None name key = false
names (Some drive) name key = is_match (drive_number drive ∷ name) key

-- Whether a call names a file by its control block.
unfoldable pub names_file : Argument → Option Drive → List ℕ → Key → Bool
names_file argument.Nothing drive block key = false
names_file argument.Byte drive block key = false
names_file argument.Word drive block key = false
names_file argument.Renaming drive block key = names drive (name_at block 1) key || names drive (name_at block 17) key
names_file other drive block key = names drive (name_at block 1) key

-- Whether the call at which a state is names a file.
unfoldable pub call_names : PlainState → Key → Bool
call_names w key =
    names_file (argument_of w.core.regs.c) (drive_of_byte w.core.desk.spot.drive (slice_index (block_in w) 0)) (block_in w) key

unfoldable pub passes_file : Option Key → PlainState → Bool
passes_file None w = true
passes_file (Some key) w = is_call w.core && call_names w key

-- Whether a step is chosen by its number, its kind, its PC and the file that it names.
unfoldable pub is_chosen : Choice → ℕ → PlainState → Bool
is_chosen c n w =
    nat_le c.from n && nat_le n c.to
    && (is_call w.core || (c.instructions && is_instruction w.core))
    && passes_address c.at w.core.regs.pc
    && passes_file c.file w

-- Whether the step that follows a state has a line.
unfoldable pub has_line : Choice → Session → ℕ → PlainState → Bool
has_line c s n w = is_chosen c n w && passes_cells c.writes (written_cells s w) && passes_cells c.reads (read_cells s w)
