-- The paths at which a file system failed, as an error reports them. (This project's own.)
use Rattle.std.specs.Prelude.{◌≡◌, List, [], ◌∷◌, ◌++◌, Result, Ok, Err}
use Rattle.std.specs.IoError.{error_kind}
use Rattle.std.specs.declared.io.Error.{Error}
use Rattle.std.specs.declared.io.ErrorKind.{ErrorKind}
use Rattle.std.specs.declared.io.ErrorKind.TheVariants.{OutOfMemory}
use Rattle.folders.specs.FileSystem.{Path, StoredFiles}

-- What an error of this kind reports for a call with this path: the path, unless an allocation failed.
abbrev pub kind_paths : Path → ErrorKind → List Path
kind_paths path OutOfMemory = []
kind_paths path _ = path ∷ []

abbrev pub io_paths : Path → Error → List Path
io_paths path e = kind_paths path (error_kind e)

-- The effect of a call on the paths that failed, the last of which comes first: none if it succeeds, or else the ones that its error
-- reports are added.
abbrev pub AddsPaths : {T E : Type 0} → (E → List Path) → Result T E → List Path → List Path → Type 0
AddsPaths reported (Ok x) before after = after ≡ before
AddsPaths reported (Err e) before after = after ≡ reported e ++ before

-- The same for a file system.
abbrev pub ReportsPaths : {T E : Type 0} → (E → List Path) → Result T E → StoredFiles → StoredFiles → Type 0
ReportsPaths reported result old new = AddsPaths reported result old.failed new.failed

-- The files are unchanged, and the paths that the result reports have failed.
pub record KeepsFiles {T E : Type 0} (reported : E → List Path) (result : Result T E) (old new : StoredFiles) : Type 0 where
  pub bytes : new.bytes ≡ old.bytes
  pub names : new.names ≡ old.names
  pub special : new.special ≡ old.special
  pub failed : AddsPaths reported result old.failed new.failed
