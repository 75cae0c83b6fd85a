-- The files of a folder by their names. (This project's profile.)
use Rattle.std.specs.Prelude.{◌≡◌, ℕ, List, ◌∷◌, ◌++◌, Option, Some, None, true, false, if◌then◌else◌, IfSome, String, string_bytes}
use Rattle.std.specs.List.{Contains}
use Rattle.std.specs.Option.{option_map}
use Rattle.std.specs.Ordering.{nat_cmp, is_lt}
use Rattle.std.specs.Cmp.Lexicographic.{slice_cmp}
use Rattle.std.specs.FinMap.{FinMap, get, insert, contains_key}
use Rattle.filenames.specs.Names.{Key}
use Rattle.folders.specs.FolderNames.{key_in, path_text}
use Rattle.folders.specs.FileSystem.{Path, FileBytes}

-- The lesser of two keys, or the first if there is no second.
abbrev pub least : Key → Option Key → Key
least key None = key
least key (Some other) = if is_lt (slice_cmp nat_cmp other key) then other else key

-- A name in the folder of a drive is the name of the host file of a key: the name has the key, and a regular file is there.
pub record IsHostFile (stored : FileBytes) (drive : ℕ) (folder : Path) (key : Key) (name : Path) : Type 0 where
  pub gives : key_in drive name ≡ Some key
  pub there : contains_key stored (path_text folder name) ≡ true

-- Two of the names in the folder of a drive belong to the host file of a key.
pub record AreDuplicates (stored : FileBytes) (drive : ℕ) (folder : Path) (names : List Path) (key : Key) : Type 0 where
  pub before : List Path
  pub name : Path
  pub after : List Path
  pub listed : names ≡ before ++ name ∷ after
  pub other : Path
  pub earlier : Contains before other
  pub first : IsHostFile stored drive folder key other
  pub second : IsHostFile stored drive folder key name

-- A name in the folder of a drive belongs to this host file, or to none.
abbrev pub Finds : FileBytes → ℕ → Path → Path → Option Key → Type 0
Finds stored drive folder name (Some key) = IsHostFile stored drive folder key name
Finds stored drive folder name None = (key : Key) → IsHostFile stored drive folder key name → ⊥

-- The names of the host files in the folder of a drive by their keys, and some key that two of them have, if there is one.
pub record ListsFolder {Z : Type 0} (stored : FileBytes) (drive : ℕ) (folder : Path) (names : List Path) (files : FinMap (slice_cmp nat_cmp) (String Z)) (duplicate : Option Key) : Type 0 where
  pub listed : (key : Key) (file : String Z) → get files key ≡ Some file → Contains names (string_bytes file) × IsHostFile stored drive folder key (string_bytes file)
  pub all : (key : Key) (name : Path) → Contains names name → IsHostFile stored drive folder key name → contains_key files key ≡ true
  pub alone : duplicate ≡ None → (key : Key) (name : Path) → Contains names name → IsHostFile stored drive folder key name → option_map string_bytes (get files key) ≡ Some name
  pub two : IfSome duplicate (AreDuplicates stored drive folder names)

-- A file is listed under a key that no file had, and no other key becomes one that two have.
abbrev pub ListsOnce : {Z : Type 0} → Key → String Z → FinMap (slice_cmp nat_cmp) (String Z) → Option Key → FinMap (slice_cmp nat_cmp) (String Z) → Option Key → Type 0
ListsOnce key file files duplicate files' duplicate' = contains_key files key ≡ false → (files' ≡ insert files key file) × (duplicate' ≡ duplicate)

-- A file has the same key as an earlier file: the first of them stays, and the key is one that two have.
abbrev pub ListsAgain : {Z : Type 0} → Key → FinMap (slice_cmp nat_cmp) (String Z) → Option Key → FinMap (slice_cmp nat_cmp) (String Z) → Option Key → Type 0
ListsAgain key files duplicate files' duplicate' = contains_key files key ≡ true → (files' ≡ files) × (duplicate' ≡ Some (least key duplicate))
