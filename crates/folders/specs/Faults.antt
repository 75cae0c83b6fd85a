-- Why folders are not read or a file is not written, and the message for it. (This project's own.)
use Rattle.std.specs.Prelude.{◌≡◌, ◌+◌, ℕ, List, [], ◌∷◌, ◌++◌, codes, slice_index, String, string_bytes}
use Rattle.std.specs.Fmt.{decimal}
use Rattle.std.specs.List.{flat_map}
use Rattle.filenames.specs.Names.{Key, display_text}
use Rattle.folders.specs.FileSystem.{Path}
use Rattle.folders.specs.declared.fault.Fault.{Fault}
use Rattle.folders.specs.declared.fault.Fault.TheVariants.{CannotRead, CannotWrite, CannotMove, Changed, Irregular, Crowded, NoFolder, TwoFiles, TooManyFiles, WouldBeTwo, Refused}
use Rattle.folders.specs.declared.fault.Failure.{Failure}
use Rattle.folders.specs.declared.fault.Failure.TheVariants.{AtFault, OutOfMemory}

-- The letter of the drive of a file.
abbrev pub letter_of : Key → List ℕ
letter_of name = (65 + slice_index name 0) ∷ []

-- The end of a message that names these paths too, if there are any.
abbrev pub others_text : {Z : Type 0} → List (String Z) → List ℕ
others_text [] = []
others_text (path ∷ paths) = codes ", those of other files in " ++ string_bytes path ++ flat_map (λ p. codes ", " ++ string_bytes p) paths

-- The message for an error.
abbrev pub text_of : Fault → List ℕ
text_of (CannotRead path) = codes "cannot read " ++ string_bytes path
text_of (CannotWrite path) = codes "cannot write " ++ string_bytes path
text_of (CannotMove path other others) =
    codes "cannot write " ++ string_bytes path ++ codes ": its contents are in " ++ string_bytes other ++ others_text others.items
text_of (Changed path) = codes "cannot write " ++ string_bytes path ++ codes ": it was changed meanwhile"
text_of (Irregular path) = codes "cannot write " ++ string_bytes path ++ codes ": it is no regular file"
text_of (Crowded path) = codes "cannot write " ++ string_bytes path ++ codes ": no temporary name beside it is free"
text_of (NoFolder name) = codes "cannot write " ++ display_text name ++ codes ": drive " ++ letter_of name ++ codes " has no folder"
text_of (TwoFiles name) = codes "two files are " ++ display_text name
text_of (TooManyFiles path) = string_bytes path ++ codes " would have more than 512 files"
text_of (WouldBeTwo name) = codes "two files would be " ++ display_text name
text_of (Refused name n) = codes "file " ++ display_text name ++ codes " refused " ++ decimal n

-- The failure is such an error, or a failed allocation.
abbrev pub FailsBy : (Fault → Type 0) → Failure → Type 0
FailsBy Such (AtFault fault) = Such fault
FailsBy Such OutOfMemory = Unit {0}

-- The path at which the file system failed, if an error reports that something could not be read or written.
abbrev pub fault_paths : Fault → List Path
fault_paths (CannotRead path) = string_bytes path ∷ []
fault_paths (CannotWrite path) = string_bytes path ∷ []
fault_paths (CannotMove path other others) = string_bytes path ∷ []
fault_paths fault = []

abbrev pub failure_paths : Failure → List Path
failure_paths (AtFault fault) = fault_paths fault
failure_paths OutOfMemory = []

-- The file or folder of this path could not be read.
abbrev pub IsReadFault : List ℕ → Fault → Type 0
IsReadFault path (CannotRead p) = string_bytes p ≡ path
IsReadFault path fault = ⊥

-- The file of this path could not be written.
abbrev pub IsWriteFault : List ℕ → Fault → Type 0
IsWriteFault path (CannotWrite p) = string_bytes p ≡ path
IsWriteFault path fault = ⊥
