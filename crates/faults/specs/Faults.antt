-- The errors of the programs: the exit status and the message of each. (This project's own.)
use Rattle.std.specs.Prelude.{◌≡◌, ℕ, ◌==◌, ◌||◌, Bool, nat_eq, nat_le, if◌then◌else◌, List, [], ◌∷◌, ◌⊎◌, ◌++◌, codes, string_bytes, take}
use Rattle.std.specs.List.{ends_with, flat_map}
use Rattle.std.specs.Borrow.{Bor}
use Rattle.std.specs.Fmt.{decimal}
use Rattle.std.specs.Str.{bytes_eq}
use Rattle.folders.specs.Faults.{fault_paths, text_of}
use Rattle.folders.specs.FileSystem.{Path}
use Rattle.folders.specs.declared.fault.Failure.{Failure}
use Rattle.folders.specs.declared.fault.Failure.TheVariants as failure
use Rattle.faults.specs.declared.fault.Fault.{Fault}
use Rattle.faults.specs.declared.fault.Fault.TheVariants.{Usage, BadEscape, NotText, CannotRead, CannotWrite, DiskUnchanged, Folders, Refused, Malformed, TooLong, RulePath, OutOfMemory}
use Rattle.faults.specs.declared.tool.Tool.{Tool}
use Rattle.faults.specs.declared.tool.Tool.TheVariants.{Cpmrun, Cpmdeps, Cpmtrace}
use Rattle.mnemonics.specs.Mnemonics.{digits}
use Rattle.streams.specs.Lines.{line}
use Rattle.streams.specs.Streams.{Output, WritesOrFails, WritesPart, WritesWhole}

-- The error of a program for a failure of the file system.
abbrev pub of_failure : Failure → Fault
of_failure (failure.AtFault f) = Folders f
of_failure failure.OutOfMemory = OutOfMemory

-- The path at which the file system failed, if an error reports that a file or a folder could not be read or written.
abbrev pub file_paths : Fault → List Path
file_paths (CannotRead path) = path.now ∷ []
file_paths (Folders f) = fault_paths f
file_paths fault = []

-- The exit status of an error.
abbrev pub status_of : Fault → ℕ
status_of (Malformed k) = 2
status_of (TooLong k) = 2
status_of OutOfMemory = 12
status_of fault = 1

-- The name of a program, as its messages begin with it.
abbrev pub name_of : Tool → List ℕ
name_of Cpmrun = codes "cpmrun"
name_of Cpmdeps = codes "cpmdeps"
name_of Cpmtrace = codes "cpmtrace"

-- The program of a path by which it is called, which is the name or ends with `/` and the name. Any other name is one of `cpmrun`.
abbrev pub is_called : List ℕ → List ℕ → Bool
is_called name path = bytes_eq path name || ends_with nat_eq path (47 ∷ name)

abbrev pub called_by : List ℕ → Tool
called_by path = if is_called (codes "cpmdeps") path then Cpmdeps else if is_called (codes "cpmtrace") path then Cpmtrace else Cpmrun

-- A byte of a message: a control character after a `\`, as cpmtrace shows it, since a path may have one.
abbrev pub shown_byte : ℕ → List ℕ
shown_byte b =
    if b == 13 then codes "\\r"
    else if b == 10 then codes "\\n"
    else if b == 9 then codes "\\t"
    else if nat_le b 0x1f || b == 0x7f then codes "\\x" ++ digits b
    else b ∷ []

abbrev pub shown : List ℕ → List ℕ
shown bytes = flat_map shown_byte bytes

-- Pieces, one after another.
abbrev pub joined : List (Bor (List ℕ)) → List ℕ
joined pieces = flat_map (λ piece. piece.now) pieces

-- A line of a program's messages.
abbrev pub message_line : Tool → List ℕ → List ℕ
message_line tool text = name_of tool ++ codes ": " ++ line (shown text)

-- The message for an option with a value that it cannot have, worded as clap's.
abbrev pub value_text : List ℕ → List ℕ → List ℕ → List ℕ
value_text value option mistake =
    codes "error: invalid value '" ++ value ++ codes "' for '" ++ option ++ codes "': " ++ mistake ++ codes "\n\nFor more information, try '--help'.\n"

-- The lines of a usage error for this reason, worded as clap's.
abbrev pub usage_text : Tool → List ℕ → List ℕ
usage_text tool reason =
    codes "error: " ++ reason ++ codes "\n\nUsage: " ++ name_of tool ++ codes " [OPTIONS] <PROGRAM> [TAIL]\n\nFor more information, try '--help'.\n"

-- The message of an error: clap's lines for a usage error, and one line for every other.
abbrev pub message_of : Tool → Fault → List ℕ
message_of tool (Usage text) = string_bytes text
message_of tool (BadEscape text) = value_text text.now (codes "--typed <TEXT>") (codes "unknown escape after a backslash")
message_of tool NotText = usage_text tool (codes "invalid UTF-8 was detected in one or more arguments")
message_of tool CannotWrite = message_line tool (codes "cannot write standard output")
message_of tool DiskUnchanged = message_line tool (codes "cannot write standard output") ++ line (codes "disk unchanged")
message_of tool (CannotRead path) = message_line tool (codes "cannot read " ++ path.now)
message_of tool (Folders f) = message_line tool (text_of f)
message_of tool (Refused n) = message_line tool (codes "session refused " ++ decimal n)
message_of tool (Malformed k) = message_line tool (codes "line " ++ decimal k ++ codes " is malformed")
message_of tool (TooLong k) = message_line tool (codes "line " ++ decimal k ++ codes " is too long")
message_of tool (RulePath path) = message_line tool (codes "a rule for make cannot have the path " ++ string_bytes path)
message_of tool OutOfMemory = message_line tool (codes "out of memory")

-- What was written of a text before an error: a prefix of it, if writing it or an allocation failed.
abbrev pub BreaksText : List ℕ → Output → Output → Fault → Type 0
BreaksText text old new CannotWrite = WritesPart old new text
BreaksText text old new OutOfMemory = (count : ℕ) × WritesWhole old new (take count text)
BreaksText text old new fault = ⊥

-- The status is this error's, and its message was written, or a prefix of it if writing failed.
abbrev pub ReportsFault : Tool → Fault → ℕ → Output → Output → Type 0
ReportsFault tool f status before after = (status ≡ status_of f) × WritesOrFails before after (message_of tool f)
