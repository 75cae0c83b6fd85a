-- The folders that words give, and why one is not found. (This project's own.)
use Rattle.std.specs.Prelude.{◌≡◌, ◌≢◌, ◌<◌, ◌⊎◌, ℕ, Bool, List, [], ◌∷◌, ◌++◌, Option, Some, None, true, get_or, map, take, is_some, length}
use Rattle.std.specs.Borrow.{Bor}
use Rattle.std.specs.List.{Contains, filter, list_any}
use Rattle.command_words.specs.Clashes.{disk_options, files_options, out_options}
use Rattle.command_words.specs.declared.clashes.Clash.{Clash}
use Rattle.command_words.specs.declared.clashes.Clash.TheVariants.{SameFolder}
use Rattle.command_words.specs.declared.words.Words.{Words}
use Rattle.disks.specs.declared.reports.Within.{Within}
use Rattle.disks.specs.declared.reports.Within.TheVariants.{Disks, Written}
use Rattle.folders.specs.Faults.{IsReadFault}
use Rattle.folders.specs.FileSystem.{Path}
use Rattle.folders.specs.FolderNames.{key_in}
use Rattle.folders.specs.declared.fault.Fault.{Fault}
use Rattle.folders.specs.declared.fault.Fault.TheVariants.{CannotRead}

-- An option, and the folder that it gives, if the words have it.
abbrev pub Option' : Type 0
Option' = List ℕ × Option (Bor Path)

abbrev pub seen : {O : Type 0} → Bor (List ℕ) × O → List ℕ × O
seen given = (given.0.now, given.1)

-- The options of the drives, with their folders.
abbrev pub with_options : List (List ℕ) → List (Option (Bor Path)) → List Option'
with_options options folders = map (λ drive. (get_or options drive [], get_or folders drive None)) (0 ∷ 1 ∷ 2 ∷ 3 ∷ [])

-- All of them: first those of disks, then those of changed files, and then those of host files.
unfoldable pub folders_of : Words → List Option'
folders_of w = with_options disk_options w.disk ++ with_options out_options w.out ++ with_options files_options w.files

-- Whether a drive has a disk.
abbrev pub has_disks : Words → Bool
has_disks w = list_any is_some w.disk

-- An option is given: one of the first n.
abbrev pub IsGiven : Words → ℕ → List ℕ → Type 0
IsGiven w n option = (folder : Bor Path) × Contains (take n (folders_of w)) (option, Some folder)

-- Two options are given, of which the first gives a disk or a folder for changed files.
abbrev pub AreGiven : Words → Clash → Type 0
AreGiven w (SameFolder first second) = IsGiven w 8 first.now × IsGiven w 12 second.now
AreGiven w clash = ⊥

-- The folder of an option could not be found.
abbrev pub IsFolderFault : Words → Fault → Type 0
IsFolderFault w fault = (option : List ℕ) × (folder : Bor Path) × Contains (folders_of w) (option, Some folder) × IsReadFault folder.now fault

-- A disk has this path.
abbrev pub IsDisk : Words → Path → Type 0
IsDisk w path = (option : List ℕ) × (folder : Bor Path) × Contains (take 4 (folders_of w)) (option, Some folder) × (folder.now ≡ path)

-- How many of the first n options are given.
abbrev pub given_count : Words → ℕ → ℕ
given_count w n = length (filter (λ f. is_some f.1) (take n (folders_of w)))

-- A disk could not be found or locked.
abbrev pub IsDiskFault : Words → Fault → Type 0
IsDiskFault w fault = (path : Path) × IsDisk w path × IsReadFault path fault

-- The name of a file is what comes after the last `/` of its path.
pub record IsNameOf (path name : Path) : Type 0 where
  pub split : (path ≡ name) ⊎ ((folder : Path) × (path ≡ folder ++ 47 ∷ name))
  pub without_slash : (i : ℕ) → i < length name → get_or name i 0 ≢ 47

-- Two paths have the same name.
abbrev pub HaveOneName : Path → Path → Type 0
HaveOneName one other = (name : Path) × IsNameOf one name × IsNameOf other name

-- How many options give such folders: disks come first, then folders for changed files.
abbrev pub option_count : Within → ℕ
option_count Disks = 4
option_count Written = 8

-- The words give such a folder.
abbrev pub HasPlaces : Words → Within → Type 0
HasPlaces w within = (option : List ℕ) × IsGiven w (option_count within) option

-- A run of the words may write a file at this path: the words give a place for files, and the name of the path is valid on any drive.
pub record MayBeWritten (w : Words) (within : Within) (path : Path) : Type 0 where
  pub places : HasPlaces w within
  pub name : Path
  pub is : IsNameOf path name
  pub valid : (drive : ℕ) → is_some (key_in drive name) ≡ true

-- What is at one of two paths could not be found.
abbrev pub IsEitherFault : Path → Path → Fault → Type 0
IsEitherFault one other fault = IsReadFault one fault ⊎ IsReadFault other fault

-- Something could not be found.
abbrev pub IsAnyReadFault : Fault → Type 0
IsAnyReadFault (CannotRead path) = Unit {0}
IsAnyReadFault fault = ⊥
