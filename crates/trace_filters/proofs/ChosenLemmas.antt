-- What a chosen step is, and when it has a line.
use Rattle.std.proofs.Common.{◌≡◌, ℕ, Bool, true, false, ◌&&◌, ◌||◌, List, Option, Some, None, is_some, refl, ◌∙◌}
use Rattle.std.proofs.lemmas.Bool.{and_parts}
use Rattle.std.specs.Prelude.{slice_index}
use Rattle.bdos.specs.FileCalls.{drive_of_byte}
use Rattle.filenames.specs.Names.{Key}
use Rattle.filenames.specs.declared.drive.Drive.{Drive}
use Rattle.machine.specs.Inputs.{Session}
use Rattle.machine.specs.PlainState.{PlainState}
use Rattle.machine.specs.Regs.{Regs}
use Rattle.trace_lines.specs.CallForms.{argument_of}
use Rattle.trace_lines.specs.CallLines.{block_in}
use Rattle.machine.specs.Step.{is_call, is_instruction}
use Rattle.trace_lines.specs.declared.forms.Argument.{Argument}
use Rattle.accesses.specs.Accesses.{read_cells, written_cells}
use Rattle.accesses.specs.Ranges.{passes_cells}
use Rattle.accesses.specs.declared.ranges.CellRange.{CellRange}
use Rattle.trace_filters.specs.Chosen.{call_names, has_line, is_chosen, names_file}
use Rattle.trace_filters.specs.declared.choice.Choice.{Choice}

-- The parts of a control block that a run has are the state's.
pub names_of : (w : PlainState) (key : Key) {r : Regs} {current : Drive} {drive : Option Drive} {dr : ℕ} {block : List ℕ} {a : Argument} {b : Bool}
    → r ≡ w.core.regs → current ≡ w.core.desk.spot.drive → block ≡ block_in w → dr ≡ slice_index block 0
    → a ≡ argument_of r.c → drive ≡ drive_of_byte current dr → b ≡ names_file a drive block key → b ≡ call_names w key
unfolding call_names
names_of w key regs spot at first argument drive named =
    named ∙ (λ j. names_file ((argument ∙ (λ k. argument_of (regs k).c)) j) ((drive ∙ (λ k. drive_of_byte (spot k) ((first ∙ (λ i. slice_index (at i) 0)) k))) j) (at j) key)

second : (k i x : Bool) → (k || (i && x)) ≡ true → k ≡ false → x ≡ true
second true i x h other = absurd (cc)
second false i x h other = (and_parts i x h).1

-- A chosen step that is no call is an instruction.
pub chosen_instruction : (c : Choice) (n : ℕ) (w : PlainState) → is_chosen c n w ≡ true → is_call w.core ≡ false → is_instruction w.core ≡ true
unfolding is_chosen
chosen_instruction c n w chosen no_call =
    second (is_call w.core) c.instructions (is_instruction w.core) (and_parts _ _ (and_parts _ _ (and_parts _ _ chosen).0).0).1 no_call

pub no_line : (c : Choice) (s : Session) (n : ℕ) (w : PlainState) → is_chosen c n w ≡ false → has_line c s n w ≡ false
unfolding has_line
no_line c s n w other = rw other refl

pub line_by_cells : (c : Choice) (s : Session) (n : ℕ) (w : PlainState) → is_chosen c n w ≡ true
    → has_line c s n w ≡ (passes_cells c.writes (written_cells s w) && passes_cells c.reads (read_cells s w))
unfolding has_line
line_by_cells c s n w chosen = rw chosen refl

passes_none : (range : Option CellRange) (cells : List ℕ) → is_some range ≡ false → passes_cells range cells ≡ true
passes_none None cells none = refl
passes_none (Some r) cells none = absurd (cc)

-- Without ranges, each chosen step has a line.
pub line_of_all : (c : Choice) (s : Session) (n : ℕ) (w : PlainState) → is_chosen c n w ≡ true → is_some c.writes ≡ false → is_some c.reads ≡ false
    → has_line c s n w ≡ true
line_of_all c s n w chosen writes reads =
    line_by_cells c s n w chosen ∙ (λ j. passes_none c.writes (written_cells s w) writes j && passes_none c.reads (read_cells s w) reads j)
