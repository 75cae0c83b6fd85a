-- What a program is to do with an error of clap. (Over clap's own definitions; the rest: this project's own.)
use Rattle.std.specs.Prelude.{◌≡◌}
use Rattle.clap.specs.Words.{IsAmong, Kinds}
use Rattle.clap.specs.declared.error.kind.ErrorKind.{ErrorKind}
use Rattle.clap.specs.declared.error.kind.ErrorKind.TheVariants as kind
use Rattle.command_words.specs.declared.error_classes.ErrorClass.{ErrorClass}
use Rattle.command_words.specs.declared.error_classes.ErrorClass.TheVariants.{Information, UsageError, OutOfMemory}

-- Out of memory, help and the version are no usage errors; every other kind is.
abbrev pub error_class : ErrorKind → ErrorClass
error_class kind.OutOfMemory = OutOfMemory
error_class kind.DisplayHelp = Information
error_class kind.DisplayVersion = Information
error_class other = UsageError

-- Words whose errors have these kinds can have this outcome: one of the kinds has it.
abbrev pub HasErrorClass : Kinds → ErrorClass → Type 0
HasErrorClass faults outcome = (kind : ErrorKind) × IsAmong kind faults × (error_class kind ≡ outcome)
