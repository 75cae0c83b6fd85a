-- The request in the words of a command line. (This project's own.)
use Rattle.std.specs.Prelude.{◌≡◌, ◌⊎◌, ◌++◌, ℕ, List, Result, Some, codes, string_bytes}
use Rattle.command_words.specs.Clashes.{Check, first_failed, names_in}
use Rattle.command_words.specs.declared.clashes.Clash.{Clash}
use Rattle.command_words.specs.declared.clashes.Clash.TheVariants.{Both, SameFolder, Missing}
use Rattle.command_words.specs.declared.error_classes.ErrorClass.{ErrorClass}
use Rattle.command_words.specs.declared.error_classes.ErrorClass.TheVariants as outcome
use Rattle.requests.specs.World.{World}
use Rattle.streams.specs.Streams.{Output, WritesPart, WritesText}
use Rattle.faults.specs.Faults.{usage_text}
use Rattle.requests.specs.declared.request.Request.{Request}
use Rattle.requests.specs.declared.request.Request.TheVariants.{Session, Information}
use Rattle.faults.specs.declared.fault.Fault.{Fault}
use Rattle.faults.specs.declared.fault.Fault.TheVariants.{Usage, CannotWrite, OutOfMemory}
use Rattle.faults.specs.declared.tool.Tool.{Tool}

-- The request: a session, or help or the version. `Are` holds for the words of the session, and `Has` for the classes of the errors
-- that the words can have.
abbrev pub IsRequestOf : {W : Type 0} → (W → Type 0) → (ErrorClass → Type 0) → Request W → Type 0
IsRequestOf Are Has (Session w) = Are w
IsRequestOf Are Has (Information text) = Has outcome.Information

-- Why clap does not take words: they are a usage error, or an allocation failed.
abbrev pub FailsToParse : (ErrorClass → Type 0) → Fault → Type 0
FailsToParse Has (Usage text) = Has outcome.UsageError
FailsToParse Has OutOfMemory = Unit {0}
FailsToParse Has fault = ⊥

-- A usage error with this message, or a failed allocation.
abbrev pub IsUsageError : List ℕ → Fault → Type 0
IsUsageError message (Usage text) = string_bytes text ≡ message
IsUsageError message OutOfMemory = Unit {0}
IsUsageError message fault = ⊥

-- The reason if two options exclude each other, or an option needs one that was not given.
abbrev pub clash_reason : Clash → List ℕ
clash_reason (Both first second) = codes "the argument '" ++ first.now ++ codes "' cannot be used with '" ++ second.now ++ codes "'"
clash_reason (SameFolder first second) = codes "the argument '" ++ first.now ++ codes "' cannot be used with '" ++ second.now ++ codes "': both are the same folder"
clash_reason (Missing option) = codes "the following required arguments were not provided:\n  " ++ option.now

-- Two options of the words exclude each other, or one needs another that is not given, by the first of these checks that fails. `Are` holds
-- for the values of the words.
pub record RefusesOptions {W : Type 0} (tool : Tool) (Are : W → Type 0) (checks : W → List Check) (fault : Fault) : Type 0 where
  pub w : W
  pub are : Are w
  pub clash : Clash
  pub first : Some (names_in clash) ≡ first_failed (checks w)
  pub message : IsUsageError (usage_text tool (clash_reason clash)) fault

-- Why words are not taken: for clap's reason, or because of their options.
abbrev pub FailsToTake : {W : Type 0} → Tool → (ErrorClass → Type 0) → (W → Type 0) → (W → List Check) → Fault → Type 0
FailsToTake tool Has Are checks fault = FailsToParse Has fault ⊎ RefusesOptions tool Are checks fault

-- Some text, as help or the version, was written, or a prefix of it if the result is an error.
abbrev pub WritesSomeText : {T E : Type 0} → Output → Output → Result T E → Type 0
WritesSomeText before after r = (text : List ℕ) × WritesText before after text r

-- Nothing was written.
abbrev pub WritesNothing : World → World → Type 0
WritesNothing before after = (after.out ≡ before.out) × (after.files.bytes ≡ before.files.bytes)

-- Help or the version was asked for and could not be written.
abbrev pub FailsToInform : (ErrorClass → Type 0) → World → World → Fault → Type 0
FailsToInform Has before after fault =
    Has outcome.Information × (fault ≡ CannotWrite) × ((text : List ℕ) × WritesPart before.out after.out text) × (after.files.bytes ≡ before.files.bytes)
