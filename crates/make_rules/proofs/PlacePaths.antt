-- Where files are written, in folders whose paths a rule can have.
use Rattle.std.proofs.Common.{◌≡◌, ◌<◌, ℕ, suc, zero, Bool, true, false, List, [], ◌∷◌, map, get_or, slice_index, string_bytes, unwrap_or, ap, refl, sym, ◌∙◌, Option, Some, None, arith}
use Rattle.std.specs.Borrow.{Bor}
use Rattle.std.specs.FinMap.{get}
use Rattle.std.specs.List.{list_any}
use Rattle.std.specs.Option.{option_map}
use Rattle.std.specs.Prelude.{IfSome, String}
use Rattle.std.proofs.lemmas.Bool.{not-false}
use Rattle.filenames.specs.Names.{Key, is_sayable}
use Rattle.filenames.proofs.NameLemmas.{drive_below, sayable_parts}
use Rattle.folders.specs.FileSystem.{Path}
use Rattle.folders.specs.FolderNames.{folder_name, key_in}
use Rattle.folders.specs.LetterCase.{new_name}
use Rattle.folders.specs.Places.{or_outside, path_on, place_of}
use Rattle.folders.specs.declared.drive_folder.DriveFolder.{DriveFolder}
use Rattle.folders.specs.declared.places.Places.{Places}
use Rattle.make_rules.specs.Carried.{is_carried}
use Rattle.make_rules.specs.Files.{folder_path}
use Rattle.make_rules.specs.RefusedPaths.{is_refused_drive, is_refused_folder}
use Rattle.make_rules.proofs.NamePaths.{IsPlainName, carried_in, name_lowered, name_printed, name_with_key}
use Rattle.make_rules.proofs.RunPaths.{allowed_at}

-- The name of a file on a disk, or of a new one there.
on_disk : {Z : Type 0} (lower : Bool) (key : Key) (o : Option (String Z)) → is_sayable key ≡ true
    → ((name : Path) → option_map string_bytes o ≡ Some name → key_in (slice_index key 0) name ≡ Some key)
    → IsPlainName (unwrap_or (option_map string_bytes o) (new_name lower key))
on_disk lower key (Some name) valid named = name_with_key (slice_index key 0) (string_bytes name) key (named (string_bytes name) refl)
on_disk true key None valid named = name_lowered (folder_name key) (name_printed key valid)
on_disk false key None valid named = name_printed key valid

abbrev pub IsCarriedAt : Option Path → Type 0
IsCarriedAt o = IfSome o (λ path. is_carried path ≡ true)

in_folder : (d : Option DriveFolder) (out : Option (Bor Path)) (key : Key) → is_sayable key ≡ true → is_refused_drive d ≡ false → is_refused_folder out ≡ false
    → IsCarriedAt (or_outside (option_map (λ disk. path_on disk key) d) out key)
in_folder None None key valid p q = tt
in_folder None (Some folder) key valid p q = carried_in folder.now (folder_name key) (not-false (is_carried (folder_path folder.now)) q) (name_printed key valid)
in_folder (Some d) out key valid p q =
    carried_in d.folder.now _ (not-false (is_carried (folder_path d.folder.now)) p) (on_disk d.listing.now.lower key (get d.listing.now.files key) valid (d.listing.now.named key))

abbrev pub four : List (Option (Bor Path)) → List (Option (Bor Path))
four folders = map (λ drive. get_or folders drive None) (0 ∷ 1 ∷ 2 ∷ 3 ∷ [])

below_four : (folders : List (Option (Bor Path))) (drive : ℕ) → drive < 4 → get_or (four folders) drive None ≡ get_or folders drive None
below_four folders zero h = refl
below_four folders (suc zero) h = refl
below_four folders (suc (suc zero)) h = refl
below_four folders (suc (suc (suc zero))) h = refl
below_four folders (suc (suc (suc (suc drive)))) h = absurd (omega arith)

-- A rule can have the folders of places.
pub record AllowsPlaces (p : Places) : Type 0 where
  pub disks : list_any is_refused_drive p.disks ≡ false
  pub out : list_any is_refused_folder (four p.out) ≡ false

-- It can have the path of a file there.
pub placed : (p : Places) (key : Key) → AllowsPlaces p → is_sayable key ≡ true → IsCarriedAt (place_of p key)
placed p key a valid =
    let drive = slice_index key 0 in
    let out = ap is_refused_folder (sym (below_four p.out drive (drive_below drive (sayable_parts key valid).drive))) ∙ allowed_at is_refused_folder (four p.out) drive refl a.out in
    in_folder (get_or p.disks drive None) (get_or p.out drive None) key valid (allowed_at is_refused_drive p.disks drive refl a.disks) out
