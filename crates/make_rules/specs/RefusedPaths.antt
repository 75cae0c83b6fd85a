-- The paths among the words of a command line that a rule for make cannot have. (This project's profile.)
use Rattle.std.specs.Prelude.{◌≡◌, ℕ, ◌⊎◌, ◌||◌, not, Bool, false, true, List, [], ◌∷◌, Option, Some, None, string_bytes}
use Rattle.std.specs.Borrow.{Bor}
use Rattle.std.specs.List.{find, list_any}
use Rattle.command_words.specs.declared.words.SessionWords.{SessionWords}
use Rattle.folders.specs.FileSystem.{Path}
use Rattle.make_rules.specs.Carried.{is_carried}
use Rattle.make_rules.specs.Files.{folder_path}
use Rattle.folders.specs.declared.drive_folder.DriveFolder.{DriveFolder}
use Rattle.faults.specs.declared.fault.Fault.{Fault}
use Rattle.make_rules.specs.declared.refused_paths.Kind.{Kind}
use Rattle.make_rules.specs.declared.refused_paths.Kind.TheVariants.{File, Folder}
use Rattle.faults.specs.declared.fault.Fault.TheVariants.{RulePath, OutOfMemory}

-- Whether a rule cannot have the path of a file, or a folder, if there is one.
abbrev pub is_refused : Option (Bor (List ℕ)) → Bool
is_refused None = false
is_refused (Some path) = not (is_carried path.now)

abbrev pub is_refused_folder : Option (Bor (List ℕ)) → Bool
is_refused_folder None = false
is_refused_folder (Some folder) = not (is_carried (folder_path folder.now))

-- The same for the folder of a drive whose files are listed.
abbrev pub is_refused_drive : Option DriveFolder → Bool
is_refused_drive None = false
is_refused_drive (Some d) = not (is_carried (folder_path d.folder.now))

-- The target or the file of the rule, the program and the script.
abbrev pub file_paths : SessionWords → Bor (List ℕ) → List (Option (Bor (List ℕ)))
file_paths w path = Some path ∷ Some w.program ∷ w.console ∷ []

-- Whether a rule cannot have one of these, or of the folders that are read and written.
abbrev pub refuses_rule : SessionWords → Bor (List ℕ) → List (Option (Bor (List ℕ))) → Bool
refuses_rule w path written =
    list_any is_refused (file_paths w path) || list_any is_refused_folder w.files || list_any is_refused_folder written

-- Whether a rule cannot have the program, the script or a folder that is read.
abbrev pub refuses_words : SessionWords → Bool
refuses_words w = list_any is_refused (Some w.program ∷ w.console ∷ []) || list_any is_refused_folder w.files

-- An error for a path: that a rule cannot have it, or that there is no memory for it.
abbrev pub IsRefused : Path → Fault → Type 0
IsRefused word (RulePath path) = string_bytes path ≡ word
IsRefused word OutOfMemory = Unit {0}
IsRefused word fault = ⊥

-- The same by what the path is the path of.
abbrev pub refuses : Kind → Option (Bor (List ℕ)) → Bool
refuses File = is_refused
refuses Folder = is_refused_folder

-- The error for the first of these paths that a rule cannot have.
pub record IsRefusalIn (kind : Kind) (paths : List (Option (Bor (List ℕ)))) (fault : Fault) : Type 0 where
  pub word : Bor (List ℕ)
  pub first : find (refuses kind) paths ≡ Some (Some word)
  pub is : IsRefused word.now fault

-- Why paths are not allowed: the first that is refused, or an allocation failed.
abbrev pub FailsEach : Kind → List (Option (Bor (List ℕ))) → Fault → Type 0
FailsEach kind paths fault = IsRefusalIn kind paths fault ⊎ (fault ≡ OutOfMemory)

-- The same for the paths of a rule: the files come first, then the folders that are read, and then the ones that are written.
pub record FailsFolders (files written : List (Option (Bor (List ℕ)))) (fault : Fault) : Type 0 where
  pub allowed : list_any is_refused_folder files ≡ false
  pub fails : FailsEach Folder written fault

pub record FailsAfter (paths files written : List (Option (Bor (List ℕ)))) (fault : Fault) : Type 0 where
  pub allowed : list_any is_refused paths ≡ false
  pub fails : FailsEach Folder files fault ⊎ FailsFolders files written fault

abbrev pub FailsPaths : SessionWords → Bor (List ℕ) → List (Option (Bor (List ℕ))) → Fault → Type 0
FailsPaths w path written fault = FailsEach File (file_paths w path) fault ⊎ FailsAfter (file_paths w path) w.files written fault
