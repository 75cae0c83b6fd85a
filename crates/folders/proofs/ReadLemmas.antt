-- What is read of a file, and files that are read one after the other.
use Rattle.std.proofs.Common.{◌≡◌, ◌≢◌, ℕ, ◌+◌, ◌<◌, ◌≤◌, List, length, take, Bool, true, false, is_some, Option, Some, None, IfSome, ◌⊎◌, inl, inr, refl, sym, ap, subst, ◌∙◌, slice_index, arith}
use Rattle.std.specs.Prelude.{String, map, string_bytes}
use Rattle.std.specs.List.{Contains, filter}
use Rattle.std.proofs.lemmas.List.{get_or_past}
use Rattle.std.proofs.lemmas.Bool.Decides.{eqb_tells, leb_tells}
use Rattle.std.specs.Borrow.{Bor}
use Rattle.std.specs.Option.{option_map}
use Rattle.std.specs.declared.cmp.Ordering.TheVariants.{Less, Equal, Greater}
use Rattle.std.specs.Ordering.{nat_cmp, is_lt, ordering_reverse}
use Rattle.std.specs.Cmp.Lexicographic.{slice_cmp, nat_list_cmp_total}
use Rattle.std.specs.FinMap.{get, insert, empty, contains_key}
use Rattle.keymaps.specs.Order.{is_above}
use Rattle.keymaps.proofs.Views.{same_key, get_here}
use Rattle.filenames.specs.Names.{Key}
use Rattle.hostfiles.specs.Hosts.{Host, Record, records_in}
use Rattle.hostfiles.specs.declared.host.TheConstants.{FILE_LIMIT}
use Rattle.folders.specs.FolderNames.{path_text}
use Rattle.folders.specs.FileSystem.{Path, FileBytes, Opens, ReadsFile, StoredFiles}
use Rattle.folders.specs.Listings.{IsHostFile, ListsFolder}
use Rattle.folders.specs.Folders.{AreFromFolders, AreFromFolder, HaveBytesOf, HasBytesOf, IsReadAs, ReadBelow, folder_of}
use Rattle.folders.specs.DriveFolders.{HasNames}
use Rattle.folders.specs.LetterCase.{prefers_lower}
use Rattle.folders.specs.LeftNames.{is_left}
use Rattle.folders.specs.declared.listing.Listing.{Listing}
use Rattle.filenames.specs.Drives.{drive_number}
use Rattle.folders.proofs.EntryLemmas.{drive_in}
use Rattle.folders.proofs.ListingLemmas.{Map, none_there}

-- What is read of a file through a reader of at most n bytes.
pub up_to : (r : Option (List ℕ)) (n : ℕ) (got : List ℕ) → IfSome (option_map (take n) r) (λ xs. got ≡ xs)
    → IfSome r (λ xs. got ≡ take n xs)
up_to None n got h = tt
up_to (Some xs) n got h = h

-- What is read of a file that was opened.
pub reads : (files : Option FileBytes) (path : Path) (n : ℕ) (left : Option (List ℕ)) (got : List ℕ) → Opens files path left → IfSome left (λ all. got ≡ take n all) → ReadsFile files path n got
reads None path n left got o h = tt
reads (Some stored) path n None got o h = let bad : false ≡ true = o.1 in cc
reads (Some stored) path n (Some all) got o h = (all, sym o.0, h)

-- A file that was read and set.
pub put_in : (files : Option FileBytes) (path : Path) (bytes : List ℕ) (before : Host) (key : Key) (now : Host) → ReadsFile files path (FILE_LIMIT + 1) bytes
    → now ≡ insert before key (records_in bytes) → IfSome files (λ stored. HasBytesOf stored path (get now key))
put_in None path bytes before key now r e = tt
put_in (Some stored) path bytes before key now r e = record {
  bytes = r.0;
  stands = r.1;
  read = ap (λ m. get m key) e ∙ get_here nat_list_cmp_total same_key before key (records_in bytes) ∙ ap (λ b. Some (records_in b)) r.2;
}

-- The files that are listed up to a key were read, and no other name was set.
pub record SetUpTo {X : Type 0} (P : Key → Option (List Record) → Type 0) (listed : Map X) (first : Host) (after : Option Key) (files : Host) : Type 0 where
  pub others : (k : Key) → contains_key listed k ≡ false → get files k ≡ get first k
  pub there : (k : Key) → contains_key listed k ≡ true → is_above after k ≡ false → P k (get files k)

module _ {X : Type 0} (P : Key → Option (List Record) → Type 0) where
  pub none_set : (listed : Map X) (first : Host) → SetUpTo P listed first None first
  none_set listed first = record { others = λ k h. refl; there = λ k h a. cc }

  absent : (listed : Map X) (k : Key) → contains_key listed k ≡ true → get listed k ≡ None → ⊥
  absent listed k h e = let b : is_some (get listed k) ≡ false = ap is_some e in cc

  -- The file of the next key is set.
  pub one_more : (listed : Map X) (first : Host) (after : Option Key) (files : Host) (key : Key) (now : Host) → SetUpTo P listed first after files
      → ((x : Key) → is_above after x ≡ true → slice_cmp nat_cmp x key ≡ Less → get listed x ≡ None)
      → contains_key listed key ≡ true
      → ((k : Key) → k ≢ key → get now k ≡ get files k)
      → P key (get now key)
      → SetUpTo P listed first (Some key) now
  one_more listed first after files key now s least in_list others there = record {
    others = λ k h. others k (λ e. let bad : contains_key listed k ≡ true = ap (contains_key listed) e ∙ in_list in cc) ∙ s.others k h;
    there = λ k h a. elim (slice_cmp nat_cmp key k) as (λ r. slice_cmp nat_cmp key k ≡ r → is_lt r ≡ false → P k (get now k)) [
      | Less ↦ λ r y. cc
      | Equal ↦ λ r y. subst (λ j. P j (get now j)) (same_key key k r) there
      | Greater ↦ λ r y. elim (is_above after k) as (λ b. is_above after k ≡ b → P k (get now k)) [
        | true ↦ λ b. absurd (absent listed k h (least k b (nat_list_cmp_total.antisymm k key ∙ ap ordering_reverse r)))
        | false ↦ λ b. subst (P k) (sym (others k (apart k r))) (s.there k h b)
      ] refl
    ] refl a;
  } where
    apart : (k : Key) → slice_cmp nat_cmp key k ≡ Greater → k ≢ key
    apart k r e = let same : slice_cmp nat_cmp key key ≡ Greater = ap (slice_cmp nat_cmp key) (sym e) ∙ r in
        let bad : Greater ≡ Less = sym same ∙ nat_list_cmp_total.antisymm key key ∙ ap ordering_reverse same in cc

  -- At the end all are set.
  pub all_set : (listed : Map X) (first : Host) (after : Option Key) (files : Host) → SetUpTo P listed first after files
      → ((x : Key) → is_above after x ≡ true → get listed x ≡ None)
      → (k : Key) → contains_key listed k ≡ true → P k (get files k)
  all_set listed first after files s none k h = elim (is_above after k) as (λ b. is_above after k ≡ b → P k (get files k)) [
    | true ↦ λ b. absurd (absent listed k h (none k b))
    | false ↦ λ b. s.there k h b
  ] refl

-- ---- a listing that is read

-- What is wanted for each key of a listing.
abbrev pub WantedOf : {Z : Type 0} → Option FileBytes → Path → Map (String Z) → Key → Option (List Record) → Type 0
WantedOf files folder listed key records = IsReadAs files folder (get listed key) records

pub read_as : {Z : Type 0} (files : Option FileBytes) (folder : Path) (o : Option (String Z)) (text : String Z) (records : Option (List Record)) → o ≡ Some text
    → is_some records ≡ true → IfSome files (λ stored. HasBytesOf stored (path_text folder (string_bytes text)) records) → IsReadAs files folder o records
read_as files folder None text records e there h = cc
read_as None folder (Some file) text records e there h = there
read_as (Some stored) folder (Some file) text records e there h = let same : text ≡ file = cc in subst (λ f. HasBytesOf stored (path_text folder (string_bytes f)) records) same h

pub all_read : {Z : Type 0} (files : Option FileBytes) (folder : Path) (listed : Map (String Z)) (host : Host)
    → ((k : Key) → contains_key listed k ≡ true → WantedOf files folder listed k (get host k)) → HaveBytesOf files folder listed host
all_read {Z = Z} files folder listed host h k = by_there (get listed k) refl where
  by_there : (o : Option (String Z)) → get listed k ≡ o → IsReadAs files folder o (get host k)
  by_there None e = tt
  by_there (Some file) e = subst (λ o. IsReadAs files folder o (get host k)) e (h k (ap is_some e))

pub named_of : {Z : Type 0} (stored : FileBytes) (folder name : Path) (o : Option (String Z)) (records : Option (List Record)) → option_map string_bytes o ≡ Some name
    → IsReadAs (Some stored) folder o records → HasBytesOf stored (path_text folder name) records
named_of stored folder name None records e h = cc
named_of stored folder name (Some file) records e h = let same : string_bytes file ≡ name = cc in subst (λ n. HasBytesOf stored (path_text folder n) records) same h

-- A folder whose listing was read, on a drive without files.
pub folder_read : {Z : Type 0} (files : Option FileBytes) (names : List Path) (drive : ℕ) (folder : Path) (listed : Map (String Z)) (duplicate : Option Key) (before now : Host)
    → IfSome files (λ stored. ListsFolder stored drive folder names listed duplicate) → duplicate ≡ None
    → ((k : Key) → slice_index k 0 ≡ drive → contains_key before k ≡ false)
    → ((k : Key) → contains_key listed k ≡ false → get now k ≡ get before k)
    → HaveBytesOf files folder listed now
    → IfSome files (λ stored. AreFromFolder stored names drive folder now)
folder_read None names drive folder listed duplicate before now l one none others read = tt
folder_read {Z = Z} (Some stored) names drive folder listed duplicate before now l one none others read = record {
  read = λ key name h is. named_of stored folder name (get listed key) (get now key) (l.alone one key name h is) (read key);
  only = λ key on there. by_there key on there (get listed key) refl;
} where
  by_there : (key : Key) → slice_index key 0 ≡ drive → contains_key now key ≡ true → (o : Option (String Z)) → get listed key ≡ o
      → (name : Path) × Contains names name × IsHostFile stored drive folder key name
  by_there key on there (Some file) e = let h = l.listed key file e in (string_bytes file, h.0, h.1)
  by_there key on there None e =
      let same : contains_key now key ≡ contains_key before key = ap is_some (others key (ap is_some e)) in
      let gone : contains_key before key ≡ false = none key on in
      cc

-- A listing of which no two files are those of one host file.
pub names_of : (files : StoredFiles) (drive : ℕ) (folder : Path) (listing : Listing) → drive_number listing.drive ≡ drive → listing.duplicate ≡ None
    → IfSome files.bytes (λ stored. ListsFolder stored drive folder (files.names folder) listing.files listing.duplicate)
    → IfSome files.bytes (λ _. listing.lower ≡ prefers_lower drive (files.names folder))
    → IfSome files.bytes (λ _. map string_bytes listing.left.items ≡ filter is_left (files.names folder))
    → IfSome files.bytes (λ stored. HasNames stored files.names drive folder listing)
names_of files drive folder listing on one l w h = by files.bytes l w h where
  by : (o : Option FileBytes) → IfSome o (λ stored. ListsFolder stored drive folder (files.names folder) listing.files listing.duplicate)
      → IfSome o (λ _. listing.lower ≡ prefers_lower drive (files.names folder)) → IfSome o (λ _. map string_bytes listing.left.items ≡ filter is_left (files.names folder))
      → IfSome o (λ stored. HasNames stored files.names drive folder listing)
  by None l w h = tt
  by (Some stored) l w h = record { drive_is = on; lists = l; alone = one; lower = w; left = h }

-- ---- the folders of the drives, one after another

pub none_read : (files : StoredFiles) (folders : List (Option (Bor (List ℕ)))) (host : Host) → host ≡ empty → ReadBelow files folders 0 host
none_read files folders host e = record {
  below = λ k h. absurd (none_there (List Record) k (ap (λ m. contains_key m k) (sym e) ∙ h));
  only = λ k h. absurd (none_there (List Record) k (ap (λ m. contains_key m k) (sym e) ∙ h));
  all = none_told files.bytes;
} where
  none_told : (o : Option FileBytes) → IfSome o (λ stored. (d : ℕ) (folder : Path) → d < 0 → folder_of folders d ≡ Some folder → AreFromFolder stored (files.names folder) d folder host)
  none_told None = tt
  none_told (Some stored) = λ d folder less. absurd (omega (arith, less))

-- The files of a drive are still the files of its folder if they are unchanged.
pub still_of : (stored : FileBytes) (names : List Path) (drive : ℕ) (folder : Path) (before now : Host) → ((k : Key) → slice_index k 0 ≡ drive → get now k ≡ get before k)
    → AreFromFolder stored names drive folder before → AreFromFolder stored names drive folder now
still_of stored names drive folder before now same a = record {
  read = λ key name h is. subst (HasBytesOf stored (path_text folder name)) (sym (same key (drive_in drive name key is.gives))) (a.read key name h is);
  only = λ key on there. a.only key on (ap is_some (sym (same key on)) ∙ there);
}

same_or_not : (a b : ℕ) → (a ≡ b) ⊎ (a ≢ b)
same_or_not a b = elim (eqb_tells a b) [ inl e ↦ inl e.1 | inr e ↦ inr e.1 ]

some_same : {X : Type 0} {a b : X} → Some a ≡ Some b → a ≡ b
some_same e = cc

some_none : {X : Type 0} {a : X} → Some a ≡ None → ⊥
some_none e = cc

-- One more drive, with a folder.
pub one_read : (files : StoredFiles) (folders : List (Option (Bor (List ℕ)))) (drive : ℕ) (folder : Path) (before now : Host)
    → ReadBelow files folders drive before → folder_of folders drive ≡ Some folder
    → ((k : Key) → slice_index k 0 ≢ drive → get now k ≡ get before k)
    → IfSome files.bytes (λ stored. AreFromFolder stored (files.names folder) drive folder now)
    → ReadBelow files folders (drive + 1) now
one_read files folders drive folder before now r here others read = record {
  below = λ k h. elim (same_or_not (slice_index k 0) drive) [ inl e ↦ omega (arith, e) | inr ne ↦ let low = r.below k (ap is_some (sym (others k ne)) ∙ h) in omega (arith, low) ];
  only = λ k h. elim (same_or_not (slice_index k 0) drive) [ inl e ↦ ap is_some (ap (folder_of folders) e ∙ here) | inr ne ↦ r.only k (ap is_some (sym (others k ne)) ∙ h) ];
  all = all_of files.bytes r.all read;
} where
  all_of : (o : Option FileBytes) → IfSome o (λ stored. (d : ℕ) (f : Path) → d < drive → folder_of folders d ≡ Some f → AreFromFolder stored (files.names f) d f before)
      → IfSome o (λ stored. AreFromFolder stored (files.names folder) drive folder now)
      → IfSome o (λ stored. (d : ℕ) (f : Path) → d < drive + 1 → folder_of folders d ≡ Some f → AreFromFolder stored (files.names f) d f now)
  all_of None a b = tt
  all_of (Some stored) a b = λ d f less e. elim (same_or_not d drive) [
    | inl same ↦ let one : folder ≡ f = some_same (sym here ∙ ap (folder_of folders) (sym same) ∙ e) in
        subst (λ x. AreFromFolder stored (files.names f) x f now) (sym same) (subst (λ x. AreFromFolder stored (files.names x) drive x now) one b)
    | inr ne ↦ still_of stored (files.names f) d f before now (λ k on. others k (λ bad. ne (sym on ∙ bad))) (a d f (omega (arith, less, ne)) e)
  ]

-- One more drive, without a folder.
pub none_more : (files : StoredFiles) (folders : List (Option (Bor (List ℕ)))) (drive : ℕ) (host : Host)
    → ReadBelow files folders drive host → folder_of folders drive ≡ None → ReadBelow files folders (drive + 1) host
none_more files folders drive host r none = record {
  below = λ k h. let low = r.below k h in omega (arith, low);
  only = r.only;
  all = all_of files.bytes r.all;
} where
  all_of : (o : Option FileBytes) → IfSome o (λ stored. (d : ℕ) (f : Path) → d < drive → folder_of folders d ≡ Some f → AreFromFolder stored (files.names f) d f host)
      → IfSome o (λ stored. (d : ℕ) (f : Path) → d < drive + 1 → folder_of folders d ≡ Some f → AreFromFolder stored (files.names f) d f host)
  all_of None a = tt
  all_of (Some stored) a = λ d f less e. elim (same_or_not d drive) [
    | inl same ↦ let bad : Some f ≡ None = sym e ∙ ap (folder_of folders) same ∙ none in absurd (some_none bad)
    | inr ne ↦ a d f (omega (arith, less, ne)) e
  ]

-- All four drives.
pub all_drives : (files : StoredFiles) (folders : List (Option (Bor (List ℕ)))) (drive : ℕ) (host : Host) → length folders ≡ 4 → 4 ≤ drive
    → ReadBelow files folders drive host → AreFromFolders files folders host
all_drives files folders drive host four le r = record { only = r.only; all = all_of files.bytes r.all } where
  all_of : (o : Option FileBytes) → IfSome o (λ stored. (d : ℕ) (f : Path) → d < drive → folder_of folders d ≡ Some f → AreFromFolder stored (files.names f) d f host)
      → IfSome o (λ stored. (d : ℕ) (f : Path) → folder_of folders d ≡ Some f → AreFromFolder stored (files.names f) d f host)
  all_of None a = tt
  all_of (Some stored) a = λ d f e. a d f (by_place d f e) e where
    past : (d : ℕ) (f : Path) → 4 ≤ d → folder_of folders d ≡ Some f → ⊥
    past d f h e = some_none (sym e ∙ ap (option_map (λ s. s.now)) (get_or_past folders d None (omega (arith, four, h))))

    by_place : (d : ℕ) (f : Path) → folder_of folders d ≡ Some f → d < drive
    by_place d f e = elim (leb_tells 4 d) [ inl h ↦ absurd (past d f h.1 e) | inr h ↦ let low = h.1 in omega (arith, low, le) ]

-- No file of a drive was read before its folder.
pub nothing_yet : (files : StoredFiles) (folders : List (Option (Bor (List ℕ)))) (drive : ℕ) (host : Host) → ReadBelow files folders drive host
    → (k : Key) → slice_index k 0 ≡ drive → contains_key host k ≡ false
nothing_yet files folders drive host r k e = by_there (contains_key host k) refl where
  by_there : (b : Bool) → contains_key host k ≡ b → b ≡ false
  by_there false h = refl
  by_there true h = let low = r.below k h in absurd (omega (arith, low, e))
