-- The listing of what a run depends on. (This project's profile.)
use Rattle.std.specs.Prelude.{ℕ, List, [], ◌∷◌, ◌++◌, take, length, Option, Some, None, codes}
use Rattle.first_looks.specs.FileSteps.{step_of_drive}
use Rattle.first_looks.specs.FirstLooks.{FirstLooksView}
use Rattle.first_looks.specs.declared.file_steps.FileSteps.{FileSteps}
use Rattle.machine.specs.Cause.{Cause}
use Rattle.machine.specs.Inputs.{Session}
use Rattle.report_lines.specs.FirstLines.{stop_line}
use Rattle.dependencies.specs.Rows.{rows_from}
use Rattle.dependencies.specs.declared.rows.Row.{Row}
use Rattle.dependencies.specs.declared.rows.Joining.{Joining}
use Rattle.dependencies.specs.declared.rows.Joining.TheVariants.{Joined}
use Rattle.dependency_lines.specs.Heads.{step_line}
use Rattle.dependency_lines.specs.Places.{rows_text}
use Rattle.dependency_lines.specs.Names.{lines_of_kind}
use Rattle.dependency_lines.specs.declared.words.IndexFormat.TheVariants.{Cell, Number}
use Rattle.dependency_lines.specs.declared.names.Kind.TheVariants.{There, Absent, Length, Records}

-- The cells of page zero, which come from the command tail or are the same in every session, and the cells from 0100H on.
abbrev pub memory_lines : Joining → FirstLooksView → List ℕ
memory_lines joining t =
    rows_text joining Cell (codes "page") (rows_from joining (take 256 t.cells) 0) ++ rows_text joining Cell (codes "program") (rows_from joining t.cells 256)

-- The step of the first of some rows.
abbrev pub step_of_first : List Row → Option ℕ
step_of_first [] = None
step_of_first (r ∷ rs) = Some r.step

-- The least step of the first row of offsets from `from` on.
abbrev pub first_row_step : FirstLooksView → ℕ → Option ℕ
first_row_step t from = step_of_first (rows_from Joined t.offsets from)

-- The offsets of the bytes of the script, and that there is no byte behind the last one.
abbrev pub script_lines : Joining → Session → FirstLooksView → List ℕ
script_lines joining s t =
    rows_text joining Number (codes "script") (rows_from joining (take (length s.script) t.offsets) 0)
    ++ step_line (codes "script end") (first_row_step t (length s.script))

-- The files by their names.
abbrev pub file_lines : Joining → Session → FirstLooksView → List ℕ
file_lines joining s t =
    lines_of_kind joining s.files t.files There ++ lines_of_kind joining s.files t.files Absent
    ++ lines_of_kind joining s.files t.files Length ++ lines_of_kind joining s.files t.files Records

-- The directories of the drives A to D.
abbrev pub directory_lines : FileSteps → List ℕ
directory_lines asked =
    step_line (codes "directory A") (step_of_drive asked.directories 0) ++ step_line (codes "directory B") (step_of_drive asked.directories 1)
    ++ step_line (codes "directory C") (step_of_drive asked.directories 2) ++ step_line (codes "directory D") (step_of_drive asked.directories 3)

-- The lines of all that was asked for.
abbrev pub asked_lines : Joining → Session → FirstLooksView → List ℕ
asked_lines joining s t = memory_lines joining t ++ script_lines joining s t ++ file_lines joining s t ++ directory_lines t.files

-- These lines, and the line of the stop.
abbrev pub listing : Joining → Session → FirstLooksView → Cause → List ℕ
listing joining s t cause = asked_lines joining s t ++ stop_line cause
