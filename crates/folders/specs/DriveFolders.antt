-- The folders of the drives, with the names of their files. (This project's profile.)
use Rattle.std.specs.Prelude.{◌≡◌, ℕ, ◌<◌, IfSome, List, [], ◌∷◌, map, Option, Some, None, get_or, option_map, string_bytes}
use Rattle.std.specs.Borrow.{Bor}
use Rattle.std.specs.List.{filter}
use Rattle.filenames.specs.Drives.{drive_number}
use Rattle.folders.specs.FileSystem.{FileBytes, Path, StoredFiles}
use Rattle.folders.specs.Folders.{folder_of}
use Rattle.folders.specs.LetterCase.{prefers_lower}
use Rattle.folders.specs.Listings.{ListsFolder}
use Rattle.folders.specs.LeftNames.{is_left}
use Rattle.folders.specs.declared.drive_folder.DriveFolder.{DriveFolder}
use Rattle.folders.specs.declared.listing.Listing.{Listing}

-- The names of the files in the folder of a drive, of which no two are those of one host file, how new names are written, and the names under
-- which ended runs left new contents.
pub record HasNames (stored : FileBytes) (names : Path → List Path) (drive : ℕ) (folder : Path) (listing : Listing) : Type 0 where
  pub drive_is : drive_number listing.drive ≡ drive
  pub lists : ListsFolder stored drive folder (names folder) listing.files listing.duplicate
  pub alone : listing.duplicate ≡ None
  pub lower : listing.lower ≡ prefers_lower drive (names folder)
  pub left : map string_bytes listing.left.items ≡ filter is_left (names folder)

-- The names in the folder of a drive, or nothing for a drive without a folder.
abbrev pub ListsDrive : FileBytes → (Path → List Path) → ℕ → Option Path → Option Listing → Type 0
ListsDrive stored names drive None found = found ≡ None
ListsDrive stored names drive (Some folder) None = ⊥
ListsDrive stored names drive (Some folder) (Some listing) = HasNames stored names drive folder listing

-- The same for each of the four drives, if the files are known.
abbrev pub AreListings : StoredFiles → List (Option (Bor Path)) → List (Option Listing) → Type 0
AreListings files folders found =
    IfSome files.bytes (λ stored. (drive : ℕ) → drive < 4 → ListsDrive stored files.names drive (folder_of folders drive) (get_or found drive None))

-- A folder and the names in it.
abbrev pub seen : Option DriveFolder → Option (Path × Listing)
seen found = option_map (λ f. (f.folder.now, f.listing.now)) found

-- The same of each of the four drives that has both.
abbrev pub both : Option (Bor Path) → Option Listing → Option (Path × Listing)
both None listing = None
both (Some folder) None = None
both (Some folder) (Some listing) = Some (folder.now, listing)

abbrev pub folders_with : List (Option (Bor Path)) → List (Option Listing) → List (Option (Path × Listing))
folders_with folders listings = map (λ drive. both (get_or folders drive None) (get_or listings drive None)) (0 ∷ 1 ∷ 2 ∷ 3 ∷ [])
