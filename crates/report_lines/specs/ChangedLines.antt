-- The lines of the changed files in a report, and the lines of the deleted files alone. (This project's own.)
use Rattle.std.specs.Prelude.{ℕ, List, [], ◌∷◌, ◌++◌, map, Option, Some, None, codes}
use Rattle.std.specs.List.{concat}
use Rattle.hex.specs.Hex.{encode_lower}
use Rattle.filenames.specs.Names.{Key, display_text}
use Rattle.hostfiles.specs.Hosts.{Record, Host}
use Rattle.machine.specs.ChangedFiles.{changed_keys_in, contents_in}
use Rattle.machine.specs.PlainFiles.{Files}
use Rattle.report_lines.specs.FirstLines.{line}
use Rattle.report_lines.specs.declared.changed_lines.FileFilter.{FileFilter}
use Rattle.report_lines.specs.declared.changed_lines.FileFilter.TheVariants.{All, GoneOnly}

-- `-` for no record, or else two lower-case digits for each byte.
abbrev pub records_text : List Record → List ℕ
records_text [] = codes "-"
records_text (r ∷ rs) = encode_lower (concat (r ∷ rs))

-- The text of a changed file: all of its records, or that it is gone.
abbrev pub changed_text : Key → Option (List Record) → List ℕ
changed_text key None = codes "gone " ++ display_text key
changed_text key (Some records) = codes "file " ++ display_text key ++ codes " " ++ records_text records

-- The line of a changed file; nothing for a file that is there, if only the ones that are gone are reported.
abbrev pub line_of_file : FileFilter → Key → Option (List Record) → List ℕ
line_of_file GoneOnly key (Some records) = []
line_of_file filter key told = line (changed_text key told)

-- The lines of the changed files that pass the filter, in the order of their names.
abbrev pub lines_of_files : FileFilter → Host → Files → List ℕ
lines_of_files filter host files = concat (map (λ key. line_of_file filter key (contents_in files key)) (changed_keys_in host files))

abbrev pub changed_lines : Host → Files → List ℕ
changed_lines = lines_of_files All

abbrev pub gone_lines : Host → Files → List ℕ
gone_lines = lines_of_files GoneOnly
