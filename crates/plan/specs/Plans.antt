-- What a plan does to files. (This project's own.)
use Rattle.std.specs.Prelude.{◌≡◌, ◌≢◌, ℕ, Bool, false, List, [], ◌∷◌, ◌++◌, Option, Some, None, Result, Ok, Err, IfSome, drop, map, string_bytes, take, ⊤}
use Rattle.std.specs.Borrow.{Bor}
use Rattle.std.specs.FinMap.{insert, remove}
use Rattle.std.specs.List.{All, flat_map, list_any}
use Rattle.std.specs.Option.{ForSome}
use Rattle.std.specs.Str.{bytes_eq}
use Rattle.folders.specs.FileSystem.{Becomes, FileBytes, IsFree, Path, files_after_rename}
use Rattle.folders.specs.Folders.{HasBytesOf}
use Rattle.folders.specs.Temporaries.{IsTemporaryOf}
use Rattle.hostfiles.specs.Hosts.{Record}
use Rattle.plan.specs.declared.deed.Before.{Before}
use Rattle.plan.specs.declared.deed.Before.TheVariants.{Any, Nothing, Loaded}
use Rattle.plan.specs.declared.deed.Deed.{Deed}
use Rattle.plan.specs.declared.deed.Deed.TheVariants.{Put, Remove}

-- ---- paths

abbrev pub path_of : {C : Type 0} → Deed C → Path
path_of (Put path temporary before contents) = string_bytes path
path_of (Remove path before) = string_bytes path

abbrev pub before_of : {C : Type 0} → Deed C → Before
before_of (Put path temporary before contents) = before
before_of (Remove path before) = before

-- The temporary paths of deeds.
abbrev pub temporary_of : {C : Type 0} → Deed C → List Path
temporary_of (Put path temporary before contents) = string_bytes temporary ∷ []
temporary_of (Remove path before) = []

abbrev pub temporaries : {C : Type 0} → List (Deed C) → List Path
temporaries deeds = flat_map temporary_of deeds

-- Whether this is the path of a deed, and whether it is the temporary one.
abbrev pub is_at : {C : Type 0} → Path → Deed C → Bool
is_at path deed = bytes_eq (path_of deed) path

abbrev pub is_first_at : {C : Type 0} → Path → Deed C → Bool
is_first_at path (Put p temporary before contents) = bytes_eq (string_bytes temporary) path
is_first_at path (Remove p before) = false

-- This path is no temporary one, and neither is a path of a deed.
abbrev pub IsNoTemporary : {C : Type 0} → Path → List (Deed C) → Type 0
IsNoTemporary path deeds = All (λ deed. is_first_at path deed ≡ false) deeds

abbrev pub AreApart : {C : Type 0} → List (Deed C) → Type 0
AreApart deeds = All (λ deed. IsNoTemporary (path_of deed) deeds) deeds

-- A temporary path for this path: it is another one, no path of a deed, and not the avoided path, if there is one.
pub record IsApartFrom {C : Type 0} (deeds : List (Deed C)) (path : Path) (avoided : Option (Bor Path)) (temporary : Path) : Type 0 where
  pub others : list_any (is_at temporary) deeds ≡ false
  pub own : path ≢ temporary
  pub free : ForSome avoided (λ other. other.now ≢ temporary)

-- A file with these contents is put at this path, and is first written beside it.
abbrev pub IsPut : {C : Type 0} → Path → Before → C → Deed C → Type 0
IsPut path before contents (Put p temporary b c) = (string_bytes p ≡ path) × (b ≡ before) × (c ≡ contents) × IsTemporaryOf path (string_bytes temporary)
IsPut path before contents (Remove p b) = ⊥

-- That is added.
pub record AddsPut {C : Type 0} (path : Path) (before : Before) (contents : C) (old new : List (Deed C)) : Type 0 where
  pub deed : Deed C
  pub adds : new ≡ old ++ deed ∷ []
  pub puts : IsPut path before contents deed

-- ---- what is expected

-- If the files are known, this one has the bytes from which these records were loaded.
abbrev pub IsLoaded : Path → List Record → Option FileBytes → Type 0
IsLoaded path records files = IfSome files (λ stored. HasBytesOf stored path (Some records))

abbrev pub IsBefore : Path → Before → Option FileBytes → Type 0
IsBefore path Any files = ⊤
IsBefore path Nothing files = IsFree path files
IsBefore path (Loaded file) files = IsLoaded path file.now files

-- What is at the path of a deed, or of each, is as expected.
abbrev pub IsAsExpected : {C : Type 0} → Option FileBytes → Deed C → Type 0
IsAsExpected files deed = IsBefore (path_of deed) (before_of deed) files

abbrev pub AreAsExpected : {C : Type 0} → Option FileBytes → List (Deed C) → Type 0
AreAsExpected files deeds = All (IsAsExpected files) deeds

-- ---- what deeds do to files

-- What is done to files in which a deed is prepared: the file of its temporary path is moved to its path, or its file is removed.
abbrev pub committed : {C : Type 0} → Deed C → FileBytes → FileBytes
committed (Put path temporary before contents) = files_after_rename (string_bytes temporary) (string_bytes path)
committed (Remove path before) = λ files. remove files (string_bytes path)

-- Nothing is at the temporary path of a deed.
abbrev pub IsFreeIn : {C : Type 0} → Deed C → Option FileBytes → Type 0
IsFreeIn (Put path temporary before contents) files = IsFree (string_bytes temporary) files
IsFreeIn (Remove path before) files = ⊤

-- What a path is to hold: these bytes, or nothing.
abbrev pub Change : Type 0
Change = Path × Option (List ℕ)

abbrev pub with_change : Change → FileBytes → FileBytes
with_change (path, None) files = remove files path
with_change (path, Some bytes) files = insert files path bytes

-- The files after changes, in order.
abbrev pub with_changes : List Change → FileBytes → FileBytes
with_changes [] files = files
with_changes (change ∷ changes) files = with_changes changes (with_change change files)

module _ {C : Type 0} (bytes : C → List ℕ) where
  -- What a deed changes in the end.
  abbrev pub change_of : Deed C → Change
  change_of (Put path temporary before contents) = (string_bytes path, Some (bytes contents))
  change_of (Remove path before) = (string_bytes path, None)

  -- The files after deeds, in order.
  abbrev pub all_done : List (Deed C) → FileBytes → FileBytes
  all_done deeds files = with_changes (map change_of deeds) files

  -- The files with the contents of a deed at its temporary path; of each deed, in order.
  abbrev pub with_prepared : Deed C → FileBytes → FileBytes
  with_prepared (Put path temporary before contents) files = insert files (string_bytes temporary) (bytes contents)
  with_prepared (Remove path before) files = files

  abbrev pub all_prepared : List (Deed C) → FileBytes → FileBytes
  all_prepared [] files = files
  all_prepared (deed ∷ deeds) files = all_prepared deeds (with_prepared deed files)

  -- The first n deeds are done, and the others are prepared.
  abbrev pub files_at : List (Deed C) → ℕ → FileBytes → FileBytes
  files_at deeds n files = all_prepared (drop n deeds) (all_done (take n deeds) files)

  -- Each deed can be prepared: nothing is at its temporary path, after those before it were prepared.
  abbrev pub AreFreeFor : List (Deed C) → FileBytes → Type 0
  AreFreeFor [] files = ⊤
  AreFreeFor (deed ∷ deeds) files = IsFreeIn deed (Some files) × AreFreeFor deeds (with_prepared deed files)

  -- The same if the files are known.
  abbrev pub AreFreeIn : List (Deed C) → Option FileBytes → Type 0
  AreFreeIn deeds None = ⊤
  AreFreeIn deeds (Some files) = AreFreeFor deeds files

  -- All deeds are prepared, at paths where nothing was.
  abbrev pub ArePrepared : List (Deed C) → Option FileBytes → Option FileBytes → Type 0
  ArePrepared deeds before after = Becomes before after (all_prepared deeds) × AreFreeIn deeds before

  -- Prepared deeds are done; or one could not be done, and then the ones before it are done and the others are prepared.
  abbrev pub Commits : List (Deed C) → Option FileBytes → Option FileBytes → Result (Unit {0}) ℕ → Type 0
  Commits deeds before after (Ok u) = Becomes before after (all_done deeds)
  Commits deeds before after (Err n) = Becomes before after (files_at deeds n)
