-- Host files that are read from folders, and why they are not. (This project's profile.)
use Rattle.std.specs.Prelude.{◌≡◌, ◌<◌, ◌+◌, ℕ, ◌⊎◌, List, Option, Some, None, Result, Ok, Err, IfSome, ⊤, true, is_some, slice_index, get_or, option_map, String, string_bytes, take}
use Rattle.std.specs.List.{Contains}
use Rattle.std.specs.Borrow.{Bor}
use Rattle.std.specs.Ordering.{nat_cmp, is_lt}
use Rattle.std.specs.Cmp.Lexicographic.{slice_cmp}
use Rattle.std.specs.FinMap.{FinMap, get, contains_key}
use Rattle.filenames.specs.Names.{Key}
use Rattle.hostfiles.specs.Hosts.{Host, Record, records_in, refusal_of}
use Rattle.hostfiles.specs.declared.host.TheConstants.{FILE_LIMIT}
use Rattle.folders.specs.FolderNames.{key_in, path_text}
use Rattle.folders.specs.Faults.{FailsBy, IsReadFault}
use Rattle.folders.specs.FileSystem.{Path, FileBytes, StoredFiles, ReadsFile}
use Rattle.folders.specs.Listings.{AreDuplicates, IsHostFile}
use Rattle.folders.specs.declared.fault.Fault.{Fault}
use Rattle.folders.specs.declared.fault.Fault.TheVariants.{CannotRead, TwoFiles, Refused}
use Rattle.folders.specs.declared.fault.Failure.{Failure}
use Rattle.folders.specs.declared.fault.Failure.TheVariants.{AtFault, OutOfMemory}

-- A file is refused by this number; without one, it is refused only if memory runs out.
abbrev pub RefusesAs : Option ℕ → Key → Result (Unit {0}) Failure → Type 0
RefusesAs None name (Ok x) = Unit {0}
RefusesAs None name (Err f) = f ≡ OutOfMemory
RefusesAs (Some n) name (Ok x) = ⊥
RefusesAs (Some n) name (Err f) = f ≡ AtFault (Refused name n)

-- The host files of such keys are unchanged.
abbrev pub KeepsFilesWhere : (Key → Type 0) → Host → Host → Type 0
KeepsFilesWhere Such before after = (k : Key) → Such k → get after k ≡ get before k

-- A host file has the records of the file of a path, of which at most one byte more is read than a host file can have.
pub record HasBytesOf (stored : FileBytes) (path : Path) (records : Option (List Record)) : Type 0 where
  pub bytes : List ℕ
  pub stands : get stored path ≡ Some bytes
  pub read : records ≡ Some (records_in (take (FILE_LIMIT + 1) bytes))

-- The file listed under a key, if any, is read as the host file of that key.
abbrev pub IsReadAs : {Z : Type 0} → Option FileBytes → Path → Option (String Z) → Option (List Record) → Type 0
IsReadAs files folder None records = ⊤
IsReadAs None folder (Some file) records = is_some records ≡ true
IsReadAs (Some stored) folder (Some file) records = HasBytesOf stored (path_text folder (string_bytes file)) records

-- The same for each key of a listing.
abbrev pub HaveBytesOf : {Z : Type 0} → Option FileBytes → Path → FinMap (slice_cmp nat_cmp) (String Z) → Host → Type 0
HaveBytesOf files folder listed host = (key : Key) → IsReadAs files folder (get listed key) (get host key)

-- The bytes of the file of a path are refused by this number, if they are set under a name among these host files.
abbrev pub RefusesFile : Option FileBytes → Path → Host → Key → ℕ → Type 0
RefusesFile files path host name n = (bytes : List ℕ) × ReadsFile files path (FILE_LIMIT + 1) bytes × (refusal_of host name bytes ≡ Some n)

-- Why the file of a path is not read and set under a name among these host files.
abbrev pub FailsFile : Option FileBytes → Path → Host → Key → Fault → Type 0
FailsFile files path host name (CannotRead p) = string_bytes p ≡ path
FailsFile files path host name (Refused other n) = (other ≡ name) × RefusesFile files path host name n
FailsFile files path host name f = ⊥

-- The files of a listing with lesser keys were read among these host files, and the next one is not.
pub record FailsListed {Z : Type 0} (files : Option FileBytes) (folder : Path) (listed : FinMap (slice_cmp nat_cmp) (String Z)) (host : Host) (fault : Fault) : Type 0 where
  pub key : Key
  pub file : String Z
  pub there : get listed key ≡ Some file
  pub before : (k : Key) → is_lt (slice_cmp nat_cmp k key) ≡ true → IsReadAs files folder (get listed k) (get host k)
  pub fails : FailsFile files (path_text folder (string_bytes file)) host key fault

-- In the folder of a drive this is the name of the host file of a key, and the files with lesser keys were read.
pub record IsNextFile (stored : FileBytes) (names : List Path) (drive : ℕ) (folder : Path) (host : Host) (key : Key) (name : Path) : Type 0 where
  pub listed : Contains names name
  pub is : IsHostFile stored drive folder key name
  pub before : (k : Key) (other : Path) → is_lt (slice_cmp nat_cmp k key) ≡ true → Contains names other → IsHostFile stored drive folder k other
      → HasBytesOf stored (path_text folder other) (get host k)

-- Why the host file of a key, the next in the folder of a drive, is not read.
pub record FailsNext (files : Option FileBytes) (names : List Path) (drive : ℕ) (folder : Path) (host : Host) (fault : Fault) : Type 0 where
  pub key : Key
  pub name : Path
  pub on_drive : slice_index key 0 ≡ drive
  pub next : IfSome files (λ stored. IsNextFile stored names drive folder host key name)
  pub fails : FailsFile files (path_text folder name) host key fault

-- Two of the names in the folder of a drive belong to one host file.
abbrev pub FailsTwice : Option FileBytes → List Path → ℕ → Path → Fault → Type 0
FailsTwice files names drive folder (TwoFiles name) = (slice_index name 0 ≡ drive) × IfSome files (λ stored. AreDuplicates stored drive folder names name)
FailsTwice files names drive folder f = ⊥

-- What is at a valid name in the folder of a drive cannot be read.
abbrev pub IsEntryFault : ℕ → Path → Path → Fault → Type 0
IsEntryFault drive folder name fault = (is_some (key_in drive name) ≡ true) × IsReadFault (path_text folder name) fault

-- The same for one of these names.
abbrev pub FailsName : List Path → ℕ → Path → Fault → Type 0
FailsName names drive folder fault = (name : Path) × Contains names name × IsEntryFault drive folder name fault

-- The same for one of the names in the folder, if these are known.
abbrev pub FailsEntry : Option FileBytes → List Path → ℕ → Path → Fault → Type 0
FailsEntry files names drive folder fault = (name : Path) × IfSome files (λ stored. Contains names name) × IsEntryFault drive folder name fault

-- Why the folder of a drive is not listed: it cannot be read, or what is at one of its names cannot.
abbrev pub FailsListing : StoredFiles → ℕ → Path → Fault → Type 0
FailsListing files drive folder fault = IsReadFault folder fault ⊎ FailsEntry files.bytes (files.names folder) drive folder fault

-- Why the folder of a drive is not read among these host files: it is not listed, two of its files have the same name, or one of
-- them is not read.
abbrev pub FailsFolder : StoredFiles → ℕ → Path → Host → Fault → Type 0
FailsFolder files drive folder host fault =
    FailsListing files drive folder fault ⊎ FailsTwice files.bytes (files.names folder) drive folder fault
    ⊎ FailsNext files.bytes (files.names folder) drive folder host fault

-- The host files of a drive are exactly the files of its folder, which has these names, each with its records.
pub record AreFromFolder (stored : FileBytes) (names : List Path) (drive : ℕ) (folder : Path) (host : Host) : Type 0 where
  pub read : (key : Key) (name : Path) → Contains names name → IsHostFile stored drive folder key name → HasBytesOf stored (path_text folder name) (get host key)
  pub only : (key : Key) → slice_index key 0 ≡ drive → contains_key host key ≡ true → (name : Path) × Contains names name × IsHostFile stored drive folder key name

-- The folder of a drive, if it has one.
abbrev pub path_of : Option (Bor (List ℕ)) → Option (List ℕ)
path_of folder = option_map (λ s. s.now) folder

abbrev pub folder_of : List (Option (Bor (List ℕ))) → ℕ → Option (List ℕ)
folder_of folders drive = path_of (get_or folders drive None)

-- The host files of each drive are the files of its folder, and a drive without a folder has none.
pub record AreFromFolders (files : StoredFiles) (folders : List (Option (Bor (List ℕ)))) (host : Host) : Type 0 where
  pub only : (key : Key) → contains_key host key ≡ true → is_some (folder_of folders (slice_index key 0)) ≡ true
  pub all : IfSome files.bytes (λ stored. (drive : ℕ) (folder : Path) → folder_of folders drive ≡ Some folder → AreFromFolder stored (files.names folder) drive folder host)

-- Why the folders of the drives are not read: one of them is not, and the folders of the drives before it were.
pub record FailsFolders (files : StoredFiles) (folders : List (Option (Bor (List ℕ)))) (failure : Failure) : Type 0 where
  pub drive : ℕ
  pub folder : Path
  pub here : folder_of folders drive ≡ Some folder
  pub host : Host
  pub before : IfSome files.bytes (λ stored. (d : ℕ) (f : Path) → d < drive → folder_of folders d ≡ Some f → AreFromFolder stored (files.names f) d f host)
  pub fails : FailsBy (FailsFolder files drive folder host) failure

-- ---- the folders of the drives, one after another

-- The folders of the drives below one were read.
pub record ReadBelow (files : StoredFiles) (folders : List (Option (Bor (List ℕ)))) (drive : ℕ) (host : Host) : Type 0 where
  pub below : (k : Key) → contains_key host k ≡ true → slice_index k 0 < drive
  pub only : (k : Key) → contains_key host k ≡ true → is_some (folder_of folders (slice_index k 0)) ≡ true
  pub all : IfSome files.bytes (λ stored. (d : ℕ) (folder : Path) → d < drive → folder_of folders d ≡ Some folder → AreFromFolder stored (files.names folder) d folder host)

-- If those were read, the folder of the next drive, if it has one, is read, or is not for this failure.
abbrev pub ReadsNext : StoredFiles → ℕ → Option Path → Host → Host → Type 0
ReadsNext files drive folder before after = (folders : List (Option (Bor (List ℕ)))) → folder_of folders drive ≡ folder
    → ReadBelow files folders drive before → ReadBelow files folders (drive + 1) after

abbrev pub FailsAtDrive : StoredFiles → ℕ → Option Path → Host → Failure → Type 0
FailsAtDrive files drive folder before failure = (folders : List (Option (Bor (List ℕ)))) → folder_of folders drive ≡ folder
    → ReadBelow files folders drive before → FailsFolders files folders failure
