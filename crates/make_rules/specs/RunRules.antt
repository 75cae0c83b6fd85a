-- The rule for make that is made from the whole run of a session. (This project's profile.)
use Rattle.std.specs.Prelude.{◌≡◌, ℕ, List, Option, map}
use Rattle.command_words.specs.declared.words.SessionWords.{SessionWords}
use Rattle.dependencies.specs.Dependencies.{AreDependencies}
use Rattle.first_looks.specs.FirstLooks.{FirstLooksView}
use Rattle.folders.specs.DriveFolders.{folders_with, seen}
use Rattle.folders.specs.FileSystem.{Path}
use Rattle.folders.specs.declared.drive_folder.DriveFolder.{DriveFolder}
use Rattle.folders.specs.declared.listing.Listing.{Listing}
use Rattle.machine.specs.Cause.{Cause}
use Rattle.machine.specs.Inputs.{Session}
use Rattle.make_rules.specs.Rule.{IsReadByMake, needs_of, rule_text}

-- What a rule is made from: the dependencies of the whole run of the session, and the names of the files in the folders of the four drives.
pub record Sources (w : SessionWords) (listings : List (Option Listing)) (s : Session) : Type 0 where
  pub looks : FirstLooksView
  pub steps : ℕ
  pub cause : Cause
  pub are : AreDependencies s looks steps cause
  pub drives : List (Option DriveFolder)
  pub listed : map seen drives ≡ folders_with w.files listings

-- The text is the rule for make with the files on which the whole run of the session depends, by their names in the folders.
pub record IsRule (w : SessionWords) (targets : List Path) (listings : List (Option Listing)) (s : Session) (text : List ℕ) : Type 0 where
  pub from : Sources w listings s
  pub is : text ≡ rule_text targets (needs_of targets w from.drives s from.looks) from.cause
  pub read : IsReadByMake targets (needs_of targets w from.drives s from.looks)
