-- The rule for make with the files on which a run depends. (This project's profile.)
use Rattle.std.specs.Prelude.{◌≡◌, ℕ, Bool, true, List, [], ◌∷◌, ◌++◌, filter, Option, Some, None, codes}
use Rattle.std.specs.Borrow.{Bor}
use Rattle.std.specs.List.{flat_map, list_all}
use Rattle.command_words.specs.declared.words.SessionWords.{SessionWords}
use Rattle.first_looks.specs.FirstLooks.{FirstLooksView}
use Rattle.folders.specs.FileSystem.{Path}
use Rattle.machine.specs.Cause.{Cause}
use Rattle.machine.specs.Cause.TheVariants.{WarmBoot}
use Rattle.machine.specs.Inputs.{Session}
use Rattle.dependencies.specs.Rows.{rows_from}
use Rattle.dependencies.specs.declared.rows.Row.{Row}
use Rattle.dependencies.specs.declared.rows.Joining.TheVariants.{Joined}
use Rattle.report_lines.specs.FirstLines.{line, stop_line}
use Rattle.make_rules.specs.Carried.{is_carried}
use Rattle.make_rules.specs.Escapes.{argument, escaped, prerequisite}
use Rattle.make_rules.specs.Files.{absent_files, all_files, all_folders, comment_on_absent, each_absent, folder_of_absent, is_other, paths_in_call}
use Rattle.make_rules.specs.Reading.{ReadsRule}
use Rattle.folders.specs.declared.drive_folder.DriveFolder.{DriveFolder}

-- ---- what a target depends on

-- A path, if there are rows of places of its file that were asked for.
abbrev pub path_if_asked : List Row → Option (Bor (List ℕ)) → List Path
path_if_asked [] path = []
path_if_asked (r ∷ rs) None = []
path_if_asked (r ∷ rs) (Some path) = path.now ∷ []

-- The program, if a cell from 0100H on was asked for; the script, if one of its offsets was, with the files and the folders; and for the
-- files that are not there, their paths in a call, and comments. No target depends on itself.
pub record Needs : Type 0 where
  pub program : List Path
  pub others : List Path
  pub missing : List Path
  pub comments : List ℕ

abbrev pub needs_of : List Path → SessionWords → List (Option DriveFolder) → Session → FirstLooksView → Needs
needs_of targets w drives s t = record {
  program = filter (is_other targets) (path_if_asked (rows_from Joined t.cells 256) (Some w.program));
  others = filter (is_other targets) (path_if_asked (rows_from Joined t.offsets 0) w.console ++ all_files t.files drives
      ++ all_folders t.files drives ++ each_absent (folder_of_absent targets) drives (absent_files s.files t.files));
  missing = each_absent (paths_in_call targets) drives (absent_files s.files t.files);
  comments = each_absent comment_on_absent drives (absent_files s.files t.files);
}

-- ---- the text

-- A call that make replaces by those of the paths that exist, after a blank.
abbrev pub call : List Path → List ℕ
call [] = []
call (path ∷ paths) = codes " $(wildcard" ++ flat_map argument (path ∷ paths) ++ codes ")"

-- Targets, with a blank between two of them.
abbrev pub targets_text : List Path → List ℕ
targets_text [] = []
targets_text (target ∷ targets) = escaped target ++ flat_map prerequisite targets

-- Targets with what they depend on.
abbrev pub rule_line : List Path → List Path → List Path → List ℕ
rule_line targets paths in_call = targets_text targets ++ codes ":" ++ flat_map prerequisite paths ++ call in_call

-- A path as a target that depends on nothing, so that make goes on without the file.
abbrev pub empty_rule : Path → List ℕ
empty_rule path = line (rule_line (path ∷ []) [] [])

-- A comment about a stop other than WarmBoot.
abbrev pub stop_comment : Cause → List ℕ
stop_comment WarmBoot = []
stop_comment cause = codes "# " ++ stop_line cause

-- The rule, each path but the program's as a target, and comments about files that are not there and about the stop.
abbrev pub rule_text : List Path → Needs → Cause → List ℕ
rule_text targets n cause =
    line (rule_line targets (n.program ++ n.others) n.missing) ++ flat_map empty_rule n.others ++ n.comments ++ stop_comment cause

-- ---- how make reads it

-- Each path can be in a rule; and whichever files exist, make reads the first line as the targets with exactly the paths that are there, and
-- those of the others that exist by then; and each other rule as a path alone.
pub record IsReadByMake (targets : List Path) (n : Needs) : Type 0 where
  pub carried : list_all is_carried (targets ++ (n.program ++ n.others) ++ n.missing) ≡ true
  pub first : (exists : Path → Bool) → ReadsRule exists (rule_line targets (n.program ++ n.others) n.missing)
      targets (n.program ++ n.others ++ filter exists n.missing)
  pub others : (exists : Path → Bool) (path : Path) → is_carried path ≡ true → ReadsRule exists (rule_line (path ∷ []) [] []) (path ∷ []) []
