-- A rule can have the paths of a run, if it can have those among the words.
use Rattle.std.proofs.Common.{◌≡◌, ℕ, zero, suc, ◌&&◌, ◌||◌, not, Bool, true, false, cond, List, [], ◌∷◌, ◌++◌, map, filter, drop, get_or, string_bytes, ap, slice_index, Option, Some, None, inl, inr, refl, ◌∙◌}
use Rattle.std.specs.Prelude.{String}
use Rattle.std.specs.Borrow.{Bor}
use Rattle.std.specs.FinMap.{contains_key, get, keys}
use Rattle.std.specs.List.{flat_map, list_all, list_any}
use Rattle.std.specs.Option.{option_map}
use Rattle.std.specs.Char.{to_ascii_lowercase}
use Rattle.std.proofs.lemmas.Bool.{and_from, and_parts, cases_Bool, not-false, true≢false}
use Rattle.std.proofs.lemmas.List.Folds.{list_all-append}
use Rattle.command_words.specs.declared.words.SessionWords.{SessionWords}
use Rattle.dependencies.specs.Rows.{rows_from}
use Rattle.dependencies.specs.declared.rows.Row.{Row}
use Rattle.dependencies.specs.declared.rows.Joining.TheVariants.{Joined}
use Rattle.filenames.specs.Names.{Key, is_sayable}
use Rattle.first_looks.specs.FirstLooks.{FirstLooksView}
use Rattle.first_looks.specs.declared.file_steps.FileSteps.{FileSteps}
use Rattle.folders.specs.FileSystem.{Path}
use Rattle.folders.specs.FolderNames.{folder_name, key_in, path_text}
use Rattle.hostfiles.specs.Hosts.{Host}
use Rattle.machine.specs.Inputs.{Session}
use Rattle.make_rules.specs.Carried.{fits_call, is_carried}
use Rattle.make_rules.specs.Files.{absent_files, all_files, all_folders, drive_files, drive_folder, each_absent, file_part, folder_of_absent, folder_path, is_absent, is_asked_about, is_other, is_searched, name_found, paths_in_call}
use Rattle.make_rules.specs.RefusedPaths.{file_paths, is_refused, is_refused_drive, is_refused_folder, refuses_rule, refuses_words}
use Rattle.make_rules.specs.Rule.{IsReadByMake, needs_of, path_if_asked}
use Rattle.folders.specs.DriveFolders.{both, folders_with, seen}
use Rattle.folders.specs.declared.drive_folder.DriveFolder.{DriveFolder}
use Rattle.folders.specs.declared.listing.Listing.{Listing}
use Rattle.make_rules.proofs.NamePaths.{carried_in, name_lowered, name_printed, name_with_key}
use Rattle.make_rules.proofs.ReadingLemmas.{all_fit, of_all}

pub neither : (x y : Bool) → (x || y) ≡ false → (x ≡ false) × (y ≡ false)
neither false y h = (refl, h)
neither true y h = absurd (true≢false h)

abbrev AllCarried : List Path → Type 0
AllCarried paths = list_all is_carried paths ≡ true

joined : (xs ys : List Path) → AllCarried xs → AllCarried ys → AllCarried (xs ++ ys)
joined xs ys p q = list_all-append is_carried xs ys ∙ and_from (list_all is_carried xs) (list_all is_carried ys) p q

each : {X : Type 0} (part : X → List Path) (xs : List X) → ((x : X) → AllCarried (part x)) → AllCarried (flat_map part xs)
each part [] h = refl
each part (x ∷ xs) h = joined (part x) (flat_map part xs) (h x) (each part xs h)

-- The same for the ones that pass a test.
each_kept : {X : Type 0} (part : X → List Path) (test : X → Bool) (xs : List X) → ((x : X) → test x ≡ true → AllCarried (part x)) → AllCarried (flat_map part (filter test xs))
each_kept part test [] h = refl
each_kept part test (x ∷ xs) h = elim (cases_Bool (test x)) [
  | inl e ↦ rw e (joined (part x) (flat_map part (filter test xs)) (h x e) (each_kept part test xs h))
  | inr e ↦ rw e (each_kept part test xs h)
]

kept : (test : Path → Bool) (paths : List Path) → AllCarried paths → AllCarried (filter test paths)
kept test [] h = refl
kept test (p ∷ ps) h =
    let both = and_parts (is_carried p) (list_all is_carried ps) h in
    elim (cases_Bool (test p)) [
      | inl e ↦ rw e (and_from (is_carried p) (list_all is_carried (filter test ps)) both.0 (kept test ps both.1))
      | inr e ↦ rw e (kept test ps both.1)
    ]

one_or_none : (b : Bool) (p : Path) → is_carried p ≡ true → AllCarried (cond b (p ∷ []) [])
one_or_none true p h = and_from (is_carried p) true h refl
one_or_none false p h = refl

none_or_one : (b : Bool) (p : Path) → is_carried p ≡ true → AllCarried (cond b [] (p ∷ []))
none_or_one true p h = refl
none_or_one false p h = and_from (is_carried p) true h refl

asked_path : (rows : List Row) (path : Option (Bor (List ℕ))) → is_refused path ≡ false → AllCarried (path_if_asked rows path)
asked_path [] path h = refl
asked_path (r ∷ rs) None h = refl
asked_path (r ∷ rs) (Some path) h = and_from (is_carried path.now) true (not-false (is_carried path.now) h) refl

-- ---- drives

each_drive : (part : Option DriveFolder → List Path) (drives : List (Option DriveFolder)) → list_any is_refused_drive drives ≡ false
    → ((d : Option DriveFolder) → is_refused_drive d ≡ false → AllCarried (part d)) → AllCarried (flat_map part drives)
each_drive part [] h f = refl
each_drive part (d ∷ ds) h f =
    let both = neither (is_refused_drive d) (list_any is_refused_drive ds) h in
    joined (part d) (flat_map part ds) (f d both.0) (each_drive part ds both.1 f)

-- The folder at a place of a list, if a rule can have all folders of the list.
pub allowed_at : {X : Type 0} (refused : Option X → Bool) (xs : List (Option X)) (n : ℕ) → refused None ≡ false → list_any refused xs ≡ false
    → refused (get_or xs n None) ≡ false
allowed_at refused [] n none h = none
allowed_at refused (x ∷ xs) zero none h = (neither (refused x) (list_any refused xs) h).0
allowed_at refused (x ∷ xs) (suc n) none h = allowed_at refused xs n none (neither (refused x) (list_any refused xs) h).1

found : {Z : Type 0} (folder : Path) (drive : ℕ) (key : Key) (o : Option (String Z)) → is_carried (folder_path folder) ≡ true
    → ((name : Path) → option_map string_bytes o ≡ Some name → key_in drive name ≡ Some key) → is_carried (path_text folder (name_found o)) ≡ true
found folder drive key None h named = h
found folder drive key (Some name) h named = carried_in folder (string_bytes name) h (name_with_key drive (string_bytes name) key (named (string_bytes name) refl))

files_of_drive : (asked : FileSteps) (d : Option DriveFolder) → is_refused_drive d ≡ false → AllCarried (drive_files asked d)
files_of_drive asked None h = refl
files_of_drive asked (Some d) h = each (file_part asked d) (keys d.listing.now.files) (λ key.
    one_or_none (is_searched asked d || is_asked_about asked key) (path_text d.folder.now (name_found (get d.listing.now.files key)))
    (found d.folder.now (slice_index key 0) key (get d.listing.now.files key) (not-false (is_carried (folder_path d.folder.now)) h) (d.listing.now.named key)))

folder_of_drive : (asked : FileSteps) (d : Option DriveFolder) → is_refused_drive d ≡ false → AllCarried (drive_folder asked d)
folder_of_drive asked None h = refl
folder_of_drive asked (Some d) h = one_or_none (is_searched asked d) (folder_path d.folder.now) (not-false (is_carried (folder_path d.folder.now)) h)

-- ---- files that are not there

module _ (targets : List Path) where
  in_call : (d : Option DriveFolder) (key : Key) → is_refused_drive d ≡ false → is_sayable key ≡ true → AllCarried (paths_in_call targets d key)
  in_call None key h valid = refl
  in_call (Some d) key h valid =
      let folder = not-false (is_carried (folder_path d.folder.now)) h in
      let name = name_printed key valid in
      let upper = path_text d.folder.now (folder_name key) in
      let lower = path_text d.folder.now (map to_ascii_lowercase (folder_name key)) in
      joined (cond (fits_call upper && is_other targets upper) (upper ∷ []) []) (cond (fits_call lower && is_other targets lower) (lower ∷ []) [])
      (one_or_none _ upper (carried_in d.folder.now (folder_name key) folder name))
      (one_or_none _ lower (carried_in d.folder.now (map to_ascii_lowercase (folder_name key)) folder (name_lowered (folder_name key) name)))

  absent_folder : (d : Option DriveFolder) (key : Key) → is_refused_drive d ≡ false → AllCarried (folder_of_absent targets d key)
  absent_folder None key h = refl
  absent_folder (Some d) key h = none_or_one _ (folder_path d.folder.now) (not-false (is_carried (folder_path d.folder.now)) h)

  module _ (drives : List (Option DriveFolder)) (allowed : list_any is_refused_drive drives ≡ false) (host : Host) (asked : FileSteps) where
    all_missing : AllCarried (each_absent (paths_in_call targets) drives (absent_files host asked))
    all_missing = each_kept (λ key. paths_in_call targets (get_or drives (slice_index key 0) None) key) (is_absent host) (keys asked.has) (λ key e.
        in_call (get_or drives (slice_index key 0) None) key (allowed_at is_refused_drive drives (slice_index key 0) refl allowed) (and_parts (is_sayable key) (not (contains_key host key)) e).0)

    all_absent : AllCarried (each_absent (folder_of_absent targets) drives (absent_files host asked))
    all_absent = each (λ key. folder_of_absent targets (get_or drives (slice_index key 0) None) key) (absent_files host asked) (λ key.
        absent_folder (get_or drives (slice_index key 0) None) key (allowed_at is_refused_drive drives (slice_index key 0) refl allowed))

-- ---- all paths

pub folders_allowed : (w : SessionWords) → refuses_words w ≡ false → list_any is_refused_folder w.files ≡ false
folders_allowed w h = (neither (list_any is_refused (Some w.program ∷ w.console ∷ [])) (list_any is_refused_folder w.files) h).1

-- Make reads the rule as its definition says.
pub read_by_make : (targets : List Path) (w : SessionWords) (drives : List (Option DriveFolder)) (s : Session) (t : FirstLooksView) → list_all is_carried targets ≡ true
    → refuses_words w ≡ false → list_any is_refused_drive drives ≡ false → IsReadByMake targets (needs_of targets w drives s t)
read_by_make targets w drives s t of_targets of_words of_drives =
    let words = neither (list_any is_refused (Some w.program ∷ w.console ∷ [])) (list_any is_refused_folder w.files) of_words in
    let program = neither (is_refused (Some w.program)) (list_any is_refused (w.console ∷ [])) words.0 in
    let console = neither (is_refused w.console) false program.1 in
    let asked = path_if_asked (rows_from Joined t.offsets 0) w.console in
    let files = all_files t.files drives in
    let folders = all_folders t.files drives in
    let absent = each_absent (folder_of_absent targets) drives (absent_files s.files t.files) in
    let n = needs_of targets w drives s t in
    let others : AllCarried n.others =
    kept (is_other targets) (((asked ++ files) ++ folders) ++ absent) (joined ((asked ++ files) ++ folders) absent (joined (asked ++ files) folders
    (joined asked files (asked_path (rows_from Joined t.offsets 0) w.console console.0) (each_drive (drive_files t.files) drives of_drives (files_of_drive t.files)))
    (each_drive (drive_folder t.files) drives of_drives (folder_of_drive t.files))) (all_absent targets drives of_drives s.files t.files)) in
    let first : AllCarried n.program = kept (is_other targets) _ (asked_path (rows_from Joined t.cells 256) (Some w.program) program.0) in
    of_all targets n (joined (targets ++ (n.program ++ n.others)) n.missing
    (joined targets (n.program ++ n.others) of_targets (joined n.program n.others first others)) (all_missing targets drives of_drives s.files t.files))
    (all_fit targets drives (absent_files s.files t.files))

-- What is known of words whose paths were allowed.
pub record AreAllowed (w : SessionWords) (path : Bor (List ℕ)) (written : List (Option (Bor (List ℕ)))) : Type 0 where
  pub path_carried : is_carried path.now ≡ true
  pub words : refuses_words w ≡ false
  pub folders : list_any is_refused_folder written ≡ false

pub are_allowed : (w : SessionWords) (path : Bor (List ℕ)) (written : List (Option (Bor (List ℕ)))) → refuses_rule w path written ≡ false → AreAllowed w path written
are_allowed w path written h =
    let rest = list_any is_refused (Some w.program ∷ w.console ∷ []) in
    let three = neither (list_any is_refused (file_paths w path) || list_any is_refused_folder w.files) (list_any is_refused_folder written) h in
    let two = neither (list_any is_refused (file_paths w path)) (list_any is_refused_folder w.files) three.0 in
    let one = neither (is_refused (Some path)) rest two.0 in
    record { path_carried = not-false (is_carried path.now) one.0; words = rw (one.1, two.1) refl; folders = three.1 }

-- ---- the folders of the words

-- A rule can have the folder of a drive, if it can have the folder in the words.
allowed_drive : (d : Option DriveFolder) (folder : Option (Bor Path)) (listing : Option Listing) → seen d ≡ both folder listing → is_refused_folder folder ≡ false → is_refused_drive d ≡ false
allowed_drive None folder listing e h = refl
allowed_drive (Some d) None listing e h = cc
allowed_drive (Some d) (Some folder) None e h = cc
allowed_drive (Some d) (Some folder) (Some listing) e h = let same : d.folder.now ≡ folder.now = ap first_path e in ap (λ p. not (is_carried (folder_path p))) same ∙ h where
  first_path : Option (Path × Listing) → Path
  first_path None = []
  first_path (Some pair) = pair.0

folder_at : (folders : List (Option (Bor Path))) (i : ℕ) → list_any is_refused_folder folders ≡ false → is_refused_folder (get_or folders i None) ≡ false
folder_at [] i h = refl
folder_at (a ∷ folders) zero h = (neither (is_refused_folder a) (list_any is_refused_folder folders) h).0
folder_at (a ∷ folders) (suc i) h = folder_at folders i (neither (is_refused_folder a) (list_any is_refused_folder folders) h).1

-- The same for all folders.
pub four_drives : (folders : List (Option (Bor Path))) (listings : List (Option Listing)) (drives : List (Option DriveFolder)) → map seen drives ≡ folders_with folders listings
    → list_any is_refused_folder folders ≡ false → list_any is_refused_drive drives ≡ false
four_drives folders listings [] e h = refl
four_drives folders listings (p ∷ []) e h = cc
four_drives folders listings (p ∷ q ∷ []) e h = cc
four_drives folders listings (p ∷ q ∷ r ∷ []) e h = cc
four_drives folders listings (p ∷ q ∷ r ∷ s ∷ t ∷ rest) e h = cc
four_drives folders listings (p ∷ q ∷ r ∷ s ∷ []) e h = rw (at 0 p e, at 1 q (ap (drop 1) e), at 2 r (ap (drop 2) e), at 3 s (ap (drop 3) e)) refl where
  first : List (Option (Path × Listing)) → Option (Path × Listing)
  first xs = get_or xs 0 None

  at : (i : ℕ) (d : Option DriveFolder) {xs ys : List (Option (Path × Listing))} → seen d ∷ xs ≡ both (get_or folders i None) (get_or listings i None) ∷ ys → is_refused_drive d ≡ false
  at i d same = allowed_drive d (get_or folders i None) (get_or listings i None) (ap first same) (folder_at folders i h)

pub drives_allowed : (w : SessionWords) (drives : List (Option DriveFolder)) (listings : List (Option Listing)) → map seen drives ≡ folders_with w.files listings
    → refuses_words w ≡ false → list_any is_refused_drive drives ≡ false
drives_allowed w drives listings e h = four_drives w.files listings drives e (folders_allowed w h)
