-- What `cpmdeps` writes about the run of a session. (This project's profile.)
use Rattle.std.specs.Prelude.{◌≡◌, ℕ, [], ◌∷◌, ◌⊎◌, if◌then◌else◌, List, MatchOption, Option}
use Rattle.command_words.specs.declared.words.DependencyWords.{DependencyWords}
use Rattle.dependencies.specs.Dependencies.{AreDependencies}
use Rattle.dependencies.specs.declared.rows.Joining.{Joining}
use Rattle.dependencies.specs.declared.rows.Joining.TheVariants.{Joined, ByStep}
use Rattle.dependency_lines.specs.Listing.{listing}
use Rattle.report_lines.specs.FirstLines.{stop_line}
use Rattle.first_looks.specs.FirstLooks.{FirstLooksView}
use Rattle.folders.specs.declared.listing.Listing.{Listing}
use Rattle.machine.specs.Cause.{Cause}
use Rattle.machine.specs.Inputs.{Session}
use Rattle.make_rules.specs.RunRules.{IsRule}
use Rattle.streams.specs.Streams.{Output, WritesOrFails, WritesPart, WritesWhole}
use Rattle.faults.specs.declared.fault.Fault.{Fault}
use Rattle.faults.specs.declared.fault.Fault.TheVariants.{CannotWrite, OutOfMemory}

-- Which neighbours the words put into one row.
abbrev pub rows_of : DependencyWords → Joining
rows_of w = if w.by_step then ByStep else Joined

-- The text lists what the whole run of the session asks for, and its stop.
pub record IsListing (joining : Joining) (s : Session) (text : List ℕ) : Type 0 where
  pub looks : FirstLooksView
  pub steps : ℕ
  pub cause : Cause
  pub are : AreDependencies s looks steps cause
  pub is : text ≡ listing joining s looks cause

-- The text is the one that the words ask for, with these names in the folders.
abbrev pub IsAnswer : DependencyWords → List (Option Listing) → Session → List ℕ → Type 0
IsAnswer w listings s text =
    MatchOption w.target (IsListing (rows_of w) s text) (λ target. IsRule w.session (target.now ∷ []) listings s text)

-- Such a text was written.
abbrev pub WritesAnswer : (List ℕ → Type 0) → Output → Output → Type 0
WritesAnswer Is before after = (text : List ℕ) × Is text × WritesWhole before after text

-- The line of the stop of the whole run of the session was written, or a prefix of it if writing failed.
pub record ReportsStop (s : Session) (before after : Output) : Type 0 where
  pub looks : FirstLooksView
  pub steps : ℕ
  pub cause : Cause
  pub are : AreDependencies s looks steps cause
  pub reported : WritesOrFails before after (stop_line cause)

-- Standard error has this line after a rule, and nothing after a listing.
abbrev pub ReportsAnswer : DependencyWords → Session → Output → Output → Type 0
ReportsAnswer w s before after = MatchOption w.target (after ≡ before) (λ _. ReportsStop s before after)

-- What was written before an error: a prefix of the text if writing it failed, and nothing if an allocation failed.
abbrev pub BreaksAnswer : (List ℕ → Type 0) → Output → Output → Fault → Type 0
BreaksAnswer Is before after fault =
    ((fault ≡ CannotWrite) × ((text : List ℕ) × Is text × WritesPart before after text)) ⊎ ((fault ≡ OutOfMemory) × (after ≡ before))
