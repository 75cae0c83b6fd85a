-- The session that is loaded from the files of the command line, and why none is. (This project's profile.)
use Rattle.std.specs.Prelude.{◌≡◌, ◌+◌, ℕ, ◌⊎◌, List, [], IfSome, MatchOption, Option, Some, None, Result, Ok, Err, ⊤}
use Rattle.std.specs.Borrow.{Bor}
use Rattle.command_words.specs.CommandLine.{text_of}
use Rattle.command_words.specs.declared.words.SessionWords.{SessionWords}
use Rattle.hostfiles.specs.Hosts.{Host}
use Rattle.folders.specs.FileSystem.{FileBytes, ReadsFile, StoredFiles}
use Rattle.folders.specs.Folders.{AreFromFolders, FailsFolders}
use Rattle.folders.specs.declared.fault.Failure.TheVariants.{AtFault}
use Rattle.machine.specs.declared.session.TheConstants.{PROGRAM_LIMIT, SCRIPT_LIMIT}
use Rattle.machine.specs.Inputs.{Session}
use Rattle.machine.specs.Session.{session_or_refusal}
use Rattle.loading.specs.Typed.{HasBadEscape, IsTyped}
use Rattle.loading.specs.declared.loading.Inputs.{Inputs}
use Rattle.faults.specs.declared.fault.Fault.{Fault}
use Rattle.faults.specs.declared.fault.Fault.TheVariants.{BadEscape, CannotRead, Folders, Refused, OutOfMemory}

-- The bytes of a program: the file PROGRAM, of which at most one byte more is read than a session takes.
abbrev pub IsProgramOf : Option FileBytes → SessionWords → List ℕ → Type 0
IsProgramOf files w program = ReadsFile files w.program.now (PROGRAM_LIMIT + 1) program

-- The bytes of a script: none without a path, or else its file, of which at most one byte more is read than a session takes.
abbrev pub IsScriptAt : Option FileBytes → Option (List ℕ) → List ℕ → Type 0
IsScriptAt files None script = script ≡ []
IsScriptAt files (Some path) script = ReadsFile files path (SCRIPT_LIMIT + 1) script

-- The same, or the script of the text, if there is one.
abbrev pub IsScriptOf : Option FileBytes → SessionWords → List ℕ → Type 0
IsScriptOf files w script = MatchOption w.typed (IsScriptAt files (text_of w.console) script) (λ text. IsTyped text.now script)

-- The script of a text, if there is one.
abbrev pub IsTypedScript : Option (Bor (List ℕ)) → Option (List ℕ) → Type 0
IsTypedScript None None = ⊤
IsTypedScript None (Some script) = ⊥
IsTypedScript (Some text) None = ⊥
IsTypedScript (Some text) (Some script) = IsTyped text.now script

-- The text, if there is one, has a script.
abbrev pub HasTypedScript : SessionWords → Type 0
HasTypedScript w = IfSome w.typed (λ text. (script : List ℕ) × IsTyped text.now script)

-- The inputs of a session beside its folders.
pub record AreInputsOf (stored : Option FileBytes) (w : SessionWords) (inputs : Inputs) : Type 0 where
  pub program : IsProgramOf stored w inputs.program.items
  pub tail : inputs.tail.items ≡ w.tail.now
  pub script : IsScriptOf stored w inputs.script.items
  pub well_typed : HasTypedScript w

-- The session of the files that the words name, with the tail and the limit of the words.
pub record IsLoadedFrom (stored : StoredFiles) (w : SessionWords) (s : Session) : Type 0 where
  pub program : IsProgramOf stored.bytes w s.program
  pub tail : s.tail ≡ w.tail.now
  pub files : AreFromFolders stored w.files s.files
  pub script : IsScriptOf stored.bytes w s.script
  pub limit : s.limit ≡ w.limit

-- Such a session is refused with this number.
pub record IsSessionRefusal (stored : StoredFiles) (w : SessionWords) (n : ℕ) : Type 0 where
  pub program : List ℕ
  pub files : Host
  pub script : List ℕ
  pub of_program : IsProgramOf stored.bytes w program
  pub from_folders : AreFromFolders stored w.files files
  pub of_script : IsScriptOf stored.bytes w script
  pub refused : session_or_refusal program w.tail.now files script w.limit ≡ Err n

-- The result is this session or this refusal.
abbrev pub MadeOrRefused : Result Session ℕ → Result Session Fault → Type 0
MadeOrRefused wanted (Ok s) = wanted ≡ Ok s
MadeOrRefused wanted (Err f) = (n : ℕ) × (f ≡ Refused n) × (wanted ≡ Err n)

-- Why the file of this path cannot be read.
abbrev pub IsReadFaultOf : List ℕ → Fault → Type 0
IsReadFaultOf path f = (f ≡ OutOfMemory) ⊎ ((p : Bor (List ℕ)) × (f ≡ CannotRead p) × (p.now ≡ path))

-- The same, if there is a path.
abbrev pub IsReadFaultIfAny : Option (List ℕ) → Fault → Type 0
IsReadFaultIfAny None f = ⊥
IsReadFaultIfAny (Some path) f = IsReadFaultOf path f

-- Why a text has no script.
abbrev pub IsTypedFault : Bor (List ℕ) → Fault → Type 0
IsTypedFault text f = (f ≡ OutOfMemory) ⊎ ((f ≡ BadEscape text) × HasBadEscape text.now)

-- The program was read, and then the script.
abbrev pub ReadsProgram : Option FileBytes → SessionWords → Type 0
ReadsProgram files w = (program : List ℕ) × IsProgramOf files w program

abbrev pub ReadsScript : Option FileBytes → SessionWords → Type 0
ReadsScript files w = (script : List ℕ) × IsScriptOf files w script

-- Why no session is loaded: the text of the script has a bad escape; or because of the files of the words, which are read in this order:
-- the program, the script, if it has no text, and the folders.
abbrev pub FailsToLoad : StoredFiles → SessionWords → Fault → Type 0
FailsToLoad files w (BadEscape text) = (w.typed ≡ Some text) × HasBadEscape text.now
FailsToLoad files w (CannotRead p) = HasTypedScript w
    × ((p.now ≡ w.program.now) ⊎ (ReadsProgram files.bytes w × (w.typed ≡ None) × (text_of w.console ≡ Some p.now)))
FailsToLoad files w (Folders f) = HasTypedScript w × ReadsProgram files.bytes w × ReadsScript files.bytes w × FailsFolders files w.files (AtFault f)
FailsToLoad files w (Refused n) = IsSessionRefusal files w n
FailsToLoad files w OutOfMemory = Unit {0}
FailsToLoad files w f = ⊥
