-- The paths on which targets depend, as they are collected. (This project's own.)
use Rattle.std.specs.Prelude.{◌≡◌, ℕ, List, ◌++◌, Option, map, string_bytes}
use Rattle.filenames.specs.Names.{Key}
use Rattle.folders.specs.FileSystem.{Path}
use Rattle.folders.specs.declared.drive_folder.DriveFolder.{DriveFolder}
use Rattle.make_rules.specs.Files.{comment_on_absent, each_absent, folder_of_absent, paths_in_call}
use Rattle.make_rules.specs.Rule.{Needs}
use Rattle.make_rules.specs.declared.missing.Paths.{Paths}

abbrev pub collected : Paths → Needs
collected paths = record {
  program = map string_bytes paths.program.items;
  others = map string_bytes paths.others.items;
  missing = map string_bytes paths.missing.items;
  comments = paths.comments.items;
}

-- What a rule says about files that are not there is added: folders, paths in a call, and comments.
pub record Adds (folders paths : List Path) (text : List ℕ) (old new : Needs) : Type 0 where
  pub program : new.program ≡ old.program
  pub others : new.others ≡ old.others ++ folders
  pub missing : new.missing ≡ old.missing ++ paths
  pub comments : new.comments ≡ old.comments ++ text

abbrev pub AddsAbsent : List Path → List (Option DriveFolder) → List Key → Needs → Needs → Type 0
AddsAbsent targets drives files =
    Adds (each_absent (folder_of_absent targets) drives files) (each_absent (paths_in_call targets) drives files)
    (each_absent comment_on_absent drives files)
