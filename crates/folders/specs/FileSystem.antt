-- What a file system stores, and what its calls do to it. (This project's own.)
use Rattle.std.specs.Prelude.{◌≡◌, ◌⊎◌, ℕ, Bool, List, [], ◌∷◌, Contains, take, Option, Some, None, IfSome, IsSome, if◌then◌else◌, ⊤}
use Rattle.std.specs.Option.{option_and_then}
use Rattle.std.specs.Ordering.{nat_cmp}
use Rattle.std.specs.Cmp.Lexicographic.{slice_cmp}
use Rattle.std.specs.FinMap.{FinMap, contains_key, get, insert, remove}
use Rattle.streams.specs.Streams.{Output}
use Rattle.folders.specs.declared.file_system.Kind.{Kind}
use Rattle.folders.specs.declared.file_system.Kind.TheVariants.{Absent, Regular, Other}

-- A path, and a name in a folder, as its bytes.
abbrev pub Path : Type 0
Path = List ℕ

-- The bytes of each file by its path.
abbrev pub FileBytes : Type 0
FileBytes = FinMap (slice_cmp nat_cmp) (List ℕ)

-- What a file system stores: the bytes of each regular file, if they are known, and then the names in each folder, in the order in
-- which it is listed, and whether something else is at a path, such as a folder, a link or a device; and the paths at which the file
-- system failed, the last one first.
pub record StoredFiles : Type 0 where
  pub bytes : Option FileBytes
  pub names : Path → List Path
  pub special : Path → Bool
  pub failed : List Path

-- What is at a path: a regular file, something else, or nothing.
abbrev pub kind_at : StoredFiles → FileBytes → Path → Kind
kind_at files stored path = if contains_key stored path then Regular else (if files.special path then Other else Absent)

-- The bytes of the file of a path, if they are known.
abbrev pub text_at : Option FileBytes → Path → Option (List ℕ)
text_at stored path = option_and_then (λ files. get files path) stored

-- If the files are known, there is one of this path, and its bytes are left to be read.
abbrev pub Opens : Option FileBytes → Path → Option (List ℕ) → Type 0
Opens None path left = ⊤
Opens (Some files) path left = (left ≡ get files path) × IsSome left

-- If the files are known, there is one of this path, and these are its bytes, or its first n if it has more.
abbrev pub ReadsFile : Option FileBytes → Path → ℕ → List ℕ → Type 0
ReadsFile None path n got = ⊤
ReadsFile (Some files) path n got = (all : List ℕ) × (get files path ≡ Some all) × (got ≡ take n all)

-- If the files are known, they change in this way.
abbrev pub Becomes : Option FileBytes → Option FileBytes → (FileBytes → FileBytes) → Type 0
Becomes None after change = ⊤
Becomes (Some files) after change = after ≡ Some (change files)

-- If the files are known, this is at the path.
abbrev pub IsKindAt : StoredFiles → Path → Kind → Type 0
IsKindAt files path kind = IfSome files.bytes (λ stored. kind ≡ kind_at files stored path)

-- If the files are known, there is none at this path.
abbrev pub IsFree : Path → Option FileBytes → Type 0
IsFree path None = ⊤
IsFree path (Some files) = get files path ≡ None

-- If the files are known, they stay known, and each path has what it had, or it is one of these and had nothing.
abbrev pub AddsOnly : List Path → Option FileBytes → Option FileBytes → Type 0
AddsOnly paths None after = ⊤
AddsOnly paths (Some files) after =
    (now : FileBytes) × (after ≡ Some now) × ((p : Path) → (get now p ≡ get files p) ⊎ (Contains paths p × (get files p ≡ None)))

-- If the files are known, they stay known, and change at these paths alone.
abbrev pub ChangesOnly : List Path → Option FileBytes → Option FileBytes → Type 0
ChangesOnly paths None after = ⊤
ChangesOnly paths (Some files) after = (now : FileBytes) × (after ≡ Some now) × ((p : Path) → (get now p ≡ get files p) ⊎ Contains paths p)

-- An output that is opened has not failed, and holds nothing, if the files are known.
abbrev pub IsNewOutput : Option FileBytes → Output → Type 0
IsNewOutput None output = output.failures ≡ 0
IsNewOutput (Some files) output = (output.holds ≡ Some []) × (output.failures ≡ 0)

-- The files after bytes are written to what is at a path: the file of the path has them, but a device, a pipe or a link leaves all
-- unchanged.
abbrev pub with_bytes : Path → List ℕ → Kind → FileBytes → FileBytes
with_bytes path bytes Other stored = stored
with_bytes path bytes kind stored = insert stored path bytes

-- If the files are known, these bytes were written to what is at a path.
abbrev pub HasBytes : Path → List ℕ → StoredFiles → StoredFiles → Type 0
HasBytes path bytes old new = Becomes old.bytes new.bytes (λ stored. with_bytes path bytes (kind_at old stored path) stored)

-- The same for what an output holds. If that is not known, no other file changes.
abbrev pub HasWritten : Path → Option (List ℕ) → StoredFiles → StoredFiles → Type 0
HasWritten path None old new = ChangesOnly (path ∷ []) old.bytes new.bytes
HasWritten path (Some bytes) old new = HasBytes path bytes old new

-- The file of one path is moved to another, replacing what was there.
abbrev pub with_file_at : Path → Option (List ℕ) → FileBytes → FileBytes
with_file_at to None files = files
with_file_at to (Some bytes) files = insert files to bytes

abbrev pub files_after_rename : Path → Path → FileBytes → FileBytes
files_after_rename from to files = with_file_at to (get files from) (remove files from)
