-- Why files and folders are not read.
use Rattle.std.proofs.Common.{◌≡◌, ◌≢◌, ℕ, ◌+◌, ◌<◌, List, get_or, length, map, true, false, is_some, Option, Some, None, IfSome, IfErr, Result, Ok, Err, inl, inr, refl, sym, ap, subst, ◌∙◌, slice_index, arith}
use Rattle.std.specs.Prelude.{String, string_bytes}
use Rattle.std.specs.List.{Contains}
use Rattle.std.proofs.lemmas.List.{get_or-map, length-map}
use Rattle.std.proofs.lemmas.List.Elements.{Contains-get_or}
use Rattle.std.specs.declared.cmp.Ordering.{Ordering}
use Rattle.std.specs.declared.cmp.Ordering.TheVariants.{Less, Equal, Greater}
use Rattle.std.specs.Borrow.{Bor}
use Rattle.std.specs.Ordering.{nat_cmp, is_lt}
use Rattle.std.specs.Cmp.Lexicographic.{slice_cmp}
use Rattle.std.specs.FinMap.{get, contains_key}
use Rattle.keymaps.specs.Order.{is_above}
use Rattle.filenames.specs.Names.{Key}
use Rattle.hostfiles.specs.Hosts.{Host, refusal_of}
use Rattle.hostfiles.specs.declared.host.TheConstants.{FILE_LIMIT}
use Rattle.folders.specs.FolderNames.{key_in, path_text}
use Rattle.folders.specs.Faults.{FailsBy, IsReadFault}
use Rattle.folders.specs.FileSystem.{Path, FileBytes, ReadsFile, StoredFiles}
use Rattle.folders.specs.Listings.{ListsFolder}
use Rattle.folders.specs.Folders.{AreFromFolder, FailsFile, FailsFolder, FailsListed, FailsListing, FailsName, IsEntryFault, IsNextFile, IsReadAs, ReadBelow, RefusesAs, folder_of}
use Rattle.folders.specs.declared.fault.Failure.{Failure}
use Rattle.folders.specs.declared.fault.Failure.TheVariants.{AtFault, OutOfMemory}
use Rattle.folders.proofs.ListingLemmas.{Map}
use Rattle.folders.proofs.ReadLemmas.{SetUpTo, WantedOf, named_of, still_of}

-- A file that was read is refused, or an allocation failed.
pub set_fails : (files : Option FileBytes) (path : Path) (host : Host) (key : Key) (bytes : List ℕ) (r : Result (Unit {0}) Failure) → ReadsFile files path (FILE_LIMIT + 1) bytes
    → RefusesAs (refusal_of host key bytes) key r → IfErr r (FailsBy (FailsFile files path host key))
set_fails files path host key bytes r read h = by_number (refusal_of host key bytes) refl r h where
  by_number : (o : Option ℕ) → refusal_of host key bytes ≡ o → (r : Result (Unit {0}) Failure) → RefusesAs o key r → IfErr r (FailsBy (FailsFile files path host key))
  by_number None e (Ok u) h = tt
  by_number None e (Err f) h = subst (FailsBy (FailsFile files path host key)) (sym h) tt
  by_number (Some n) e (Ok u) h = tt
  by_number (Some n) e (Err f) h = subst (FailsBy (FailsFile files path host key)) (sym h) (refl, (bytes, read, e))

-- A file of a listing is not read, and the files with lesser keys were.
pub listed_fails : {Z : Type 0} (files : Option FileBytes) (folder : Path) (listed : Map (String Z)) (first : Host) (after : Option Key) (host : Host) (key : Key) (file : String Z) (failure : Failure)
    → SetUpTo (WantedOf files folder listed) listed first after host
    → ((x : Key) → is_above after x ≡ true → slice_cmp nat_cmp x key ≡ Less → get listed x ≡ None)
    → get listed key ≡ Some file
    → FailsBy (FailsFile files (path_text folder (string_bytes file)) host key) failure → FailsBy (FailsListed files folder listed host) failure
listed_fails files folder listed first after host key file OutOfMemory s least there h = tt
listed_fails {Z = Z} files folder listed first after host key file (AtFault fault) s least there h = record {
  key = key;
  file = file;
  there = there;
  before = λ k lt. was_read k (get listed k) refl (less (slice_cmp nat_cmp k key) lt);
  fails = h;
} where
  less : (o : Ordering) → is_lt o ≡ true → o ≡ Less
  less Less e = refl
  less Equal e = cc
  less Greater e = cc

  was_read : (k : Key) (o : Option (String Z)) → get listed k ≡ o → slice_cmp nat_cmp k key ≡ Less → IsReadAs files folder o (get host k)
  was_read k None e lt = tt
  was_read k (Some f) e lt = subst (λ o. IsReadAs files folder o (get host k)) e (elim (is_above after k) as (λ b. is_above after k ≡ b → WantedOf files folder listed k (get host k)) [
    | true ↦ λ b. let none : Some f ≡ None = sym e ∙ least k b lt in cc
    | false ↦ λ b. s.there k (ap is_some e) b
  ] refl)

-- What is at a name that has a key cannot be read.
pub entry_fails : (drive : ℕ) (folder name path : Path) (key : Key) (f : Failure) → key_in drive name ≡ Some key → path ≡ path_text folder name
    → FailsBy (IsReadFault path) f → FailsBy (IsEntryFault drive folder name) f
entry_fails drive folder name path key OutOfMemory has at h = tt
entry_fails drive folder name path key (AtFault fault) has at h = (ap is_some has, subst (λ p. IsReadFault p fault) at h)

-- What is at one of these names cannot be read.
pub name_unlisted : {Z : Type 0} (drive d : ℕ) (folder name : Path) (items : List (String Z)) (i : ℕ) (item : String Z) (f : Failure)
    → i < length items → item ≡ get_or items i item → name ≡ string_bytes item → d ≡ drive
    → FailsBy (IsEntryFault d folder name) f → FailsBy (FailsName (map string_bytes items) drive folder) f
name_unlisted drive d folder name items i item OutOfMemory lt is says on h = tt
name_unlisted drive d folder name items i item (AtFault fault) lt is says on h = (
  name,
  subst (Contains (map string_bytes items)) (get_or-map string_bytes items i item name lt ∙ ap string_bytes (sym is) ∙ sym says)
      (Contains-get_or (map string_bytes items) i name (let same = length-map items string_bytes in omega (arith, same, lt))),
  subst (λ k. IsEntryFault k folder name fault) on h,
)

-- If what is at one of the names in a folder cannot be read, the folder is not listed.
pub names_unlisted : (files : StoredFiles) (drive : ℕ) (folder : Path) (names : List Path) (f : Failure) → IfSome files.bytes (λ _. names ≡ files.names folder)
    → FailsBy (FailsName names drive folder) f → FailsBy (FailsListing files drive folder) f
names_unlisted files drive folder names OutOfMemory all h = tt
names_unlisted files drive folder names (AtFault fault) all (name, there, fails) = inr (name, known files.bytes all, fails) where
  known : (o : Option FileBytes) → IfSome o (λ _. names ≡ files.names folder) → IfSome o (λ _. Contains (files.names folder) name)
  known None same = tt
  known (Some stored) same = subst (λ ns. Contains ns name) same there

-- If a folder cannot be read, it is not listed.
pub folder_unlisted : (files : StoredFiles) (drive : ℕ) (folder : Path) (f : Failure) → FailsBy (IsReadFault folder) f → FailsBy (FailsListing files drive folder) f
folder_unlisted files drive folder OutOfMemory h = tt
folder_unlisted files drive folder (AtFault fault) h = inl h

-- If a folder is not listed, it is not read.
pub unlisted_fails : (files : StoredFiles) (drive : ℕ) (folder : Path) (host : Host) (f : Failure) → FailsBy (FailsListing files drive folder) f → FailsBy (FailsFolder files drive folder host) f
unlisted_fails files drive folder host OutOfMemory h = tt
unlisted_fails files drive folder host (AtFault fault) h = inl h

-- If a listing is not read, its folder is not.
pub folder_fails : {Z : Type 0} (files : StoredFiles) (drive : ℕ) (folder : Path) (listed : Map (String Z)) (duplicate : Option Key) (host : Host) (r : Result (Unit {0}) Failure)
    → IfSome files.bytes (λ stored. ListsFolder stored drive folder (files.names folder) listed duplicate) → duplicate ≡ None
    → ((k : Key) → contains_key listed k ≡ true → slice_index k 0 ≡ drive)
    → IfErr r (FailsBy (FailsListed files.bytes folder listed host)) → IfErr r (FailsBy (FailsFolder files drive folder host))
folder_fails files drive folder listed duplicate host (Ok u) l one on h = tt
folder_fails files drive folder listed duplicate host (Err OutOfMemory) l one on h = tt
folder_fails files drive folder listed duplicate host (Err (AtFault fault)) l one on h = inr (inr (record {
  key = h.key;
  name = string_bytes h.file;
  on_drive = on h.key (ap is_some h.there);
  next = next_in files.bytes l h.before;
  fails = h.fails;
})) where
  next_in : (o : Option FileBytes) → IfSome o (λ stored. ListsFolder stored drive folder (files.names folder) listed duplicate)
      → ((k : Key) → is_lt (slice_cmp nat_cmp k h.key) ≡ true → IsReadAs o folder (get listed k) (get host k))
      → IfSome o (λ stored. IsNextFile stored (files.names folder) drive folder host h.key (string_bytes h.file))
  next_in None l b = tt
  next_in (Some stored) l b =
      let at = l.listed h.key h.file h.there in record {
        listed = at.0;
        is = at.1;
        before = λ k other lt there is. named_of stored folder other (get listed k) (get host k) (l.alone one k other there is) (b k lt);
      }

-- The folders of the drives before one were read, and this still holds if no file of them changes.
pub before_still : (files : StoredFiles) (folders : List (Option (Bor (List ℕ)))) (drive : ℕ) (before now : Host) → ReadBelow files folders drive before
    → ((k : Key) → slice_index k 0 ≢ drive → get now k ≡ get before k)
    → IfSome files.bytes (λ stored. (d : ℕ) (f : Path) → d < drive → folder_of folders d ≡ Some f → AreFromFolder stored (files.names f) d f now)
before_still files folders drive before now r others = all_of files.bytes r.all where
  all_of : (o : Option FileBytes) → IfSome o (λ stored. (d : ℕ) (f : Path) → d < drive → folder_of folders d ≡ Some f → AreFromFolder stored (files.names f) d f before)
      → IfSome o (λ stored. (d : ℕ) (f : Path) → d < drive → folder_of folders d ≡ Some f → AreFromFolder stored (files.names f) d f now)
  all_of None a = tt
  all_of (Some stored) a = λ d f low e. still_of stored (files.names f) d f before now (λ k on. others k (λ bad. apart d low (sym on ∙ bad))) (a d f low e) where
    apart : (d : ℕ) → d < drive → d ≢ drive
    apart d low e = absurd (omega (arith, low, e))
