-- How a program ends, by what it makes of its words. (This project's profile.)
use Rattle.std.specs.Prelude.{◌≡◌, ◌⊎◌, ◌++◌, ℕ, List, Option}
use Rattle.command_words.specs.Clashes.{Check}
use Rattle.command_words.specs.declared.error_classes.ErrorClass.{ErrorClass}
use Rattle.command_words.specs.declared.error_classes.ErrorClass.TheVariants.{Information}
use Rattle.command_words.specs.declared.words.SessionWords.{SessionWords}
use Rattle.faults.specs.Faults.{ReportsFault, file_paths}
use Rattle.faults.specs.declared.fault.Fault.{Fault}
use Rattle.faults.specs.declared.tool.Tool.{Tool}
use Rattle.folders.specs.DriveFolders.{AreListings}
use Rattle.folders.specs.declared.listing.Listing.{Listing}
use Rattle.loading.specs.Loading.{FailsToLoad, IsLoadedFrom}
use Rattle.loading.specs.Inputs.{Session}
use Rattle.requests.specs.World.{World}
use Rattle.requests.specs.Acts.{Act}
use Rattle.requests.specs.Requests.{FailsToInform, FailsToTake, WritesNothing}
use Rattle.streams.specs.Streams.{WritesWhole}

-- What words ask for: a session, and what is done with it.
pub record Task : Type 1 where
  pub session : SessionWords
  -- Why the words are refused before the session is loaded, and that they are not.
  pub Refuses : Fault → Type 0
  pub Allows : Type 0
  -- What is done with the session, which was loaded from folders with these names, if the program exits with this status.
  pub act : Session → List (Option Listing) → ℕ → Act

-- A program: its name, and what its words say.
pub record Program (W : Type 0) : Type 1 where
  pub tool : Tool
  -- The classes of the errors that clap has for words, and the values that words have if it has none.
  pub Has : List (List ℕ) → ErrorClass → Type 0
  pub Have : List (List ℕ) → W → Type 0
  -- What can be wrong with the values, and that they are taken.
  pub checks : W → List Check
  pub Are : List (List ℕ) → W → Type 0
  pub task : W → Task

-- A task was done.
pub record Does (t : Task) (status : ℕ) (before after : World) : Type 0 where
  pub allowed : t.Allows
  pub s : Session
  pub of : IsLoadedFrom before.files t.session s
  pub listings : List (Option Listing)
  pub listed : AreListings before.files t.session.files listings
  pub done : (t.act s listings status).Does before after

-- What an error of a task leaves: it was refused, or its session was not loaded, and nothing was written; or what was done with the
-- session broke off, which is the same for each status.
abbrev pub Fails : Task → World → World → Fault → Type 0
Fails t before after fault =
    (t.Refuses fault × WritesNothing before after)
    ⊎ (t.Allows × ((FailsToLoad before.files t.session fault × WritesNothing before after)
    ⊎ ((s : Session) × (listings : List (Option Listing)) × IsLoadedFrom before.files t.session s × AreListings before.files t.session.files listings
    × (t.act s listings 0).Leaves before after fault)))

-- Help or the version was written.
pub record Informs (Has : ErrorClass → Type 0) (status : ℕ) (before after : World) : Type 0 where
  pub asked : Has Information
  pub zero : status ≡ 0
  pub text : List ℕ
  pub written : WritesWhole before.out after.out text
  pub err : after.err ≡ before.err
  pub files : after.files.bytes ≡ before.files.bytes

-- How a program ends without an error: it wrote help or the version, or did what its words ask for. No call of the file system failed.
pub record EndsWell {W : Type 0} (p : Program W) (words : List (List ℕ)) (status : ℕ) (before after : World) : Type 0 where
  pub failed : after.files.failed ≡ before.files.failed
  pub did : Informs (p.Has words) status before after ⊎ ((w : W) × p.Are words w × Does (p.task w) status before after)

-- An error of these words, and what it leaves: the words were not taken, help could not be written, or what they ask for was not done.
abbrev pub FaultOf : {W : Type 0} → Program W → List (List ℕ) → World → World → Fault → Type 0
FaultOf {W} p words before after fault =
    (FailsToTake p.tool (p.Has words) (p.Have words) p.checks fault × WritesNothing before after)
    ⊎ FailsToInform (p.Has words) before after fault
    ⊎ ((w : W) × p.Are words w × Fails (p.task w) before after fault)

-- Such an error occurred and was reported with its status. If it says that something could not be read or written, its path is the last at
-- which the file system failed, and the only one; if not, no call of the file system failed.
pub record EndsByFault {W : Type 0} (p : Program W) (words : List (List ℕ)) (status : ℕ) (before after : World) : Type 0 where
  pub fault : Fault
  pub comes : FaultOf p words before after fault
  pub failed : after.files.failed ≡ file_paths fault ++ before.files.failed
  pub reported : ReportsFault p.tool fault status before.err after.err

-- How a program ends. It has the status 0 only if there is no error.
pub record Ends {W : Type 0} (p : Program W) (words : List (List ℕ)) (status : ℕ) (before after : World) : Type 0 where
  pub ends : EndsWell p words status before after ⊎ EndsByFault p words status before after
  pub done : status ≡ 0 → EndsWell p words status before after
