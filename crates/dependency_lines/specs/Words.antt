-- Places, rows and steps in a listing. (This project's profile.)
use Rattle.std.specs.Prelude.{ℕ, ◌-◌, ◌%◌, nat_lt, if◌then◌else◌, List, [], ◌++◌, codes}
use Rattle.std.specs.Fmt.{decimal}
use Rattle.report_lines.specs.FirstLines.{word_text, line}
use Rattle.dependencies.specs.declared.rows.Row.{Row}
use Rattle.dependency_lines.specs.declared.words.IndexFormat.{IndexFormat}
use Rattle.dependency_lines.specs.declared.words.IndexFormat.TheVariants.{Cell, Number}

-- The address of one of the 65,536 cells has four digits. Offsets and record numbers are decimal.
abbrev pub place_text : IndexFormat → ℕ → List ℕ
place_text Cell k = word_text (k % 65536)
place_text Number k = decimal k

-- The last place of a row that has more than one.
abbrev pub last_text : IndexFormat → Row → List ℕ
last_text format r = if nat_lt r.first (r.end - 1) then codes "-" ++ place_text format (r.end - 1) else []

-- A row, after a blank: its first place, and its last one if it has more.
abbrev pub row_text : IndexFormat → Row → List ℕ
row_text format r = codes " " ++ place_text format r.first ++ last_text format r

-- The end of a line: the first step.
abbrev pub step_end : ℕ → List ℕ
step_end step = line (codes " step " ++ decimal step)
