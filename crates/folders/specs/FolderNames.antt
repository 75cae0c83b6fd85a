-- Names of files in the folder of a drive. (This project's profile.)
use Rattle.std.specs.Prelude.{ℕ, ◌==◌, ◌-◌, ◌++◌, ◌∷◌, [], Bool, false, not, List, Option, Some, None, Result, Ok, Err, if◌then◌else◌, slice_get, slice_set, length}
use Rattle.std.specs.List.{list_any}
use Rattle.std.specs.Option.{option_map_or}
use Rattle.filenames.specs.Names.{Key, is_colon, name_without_drive, display_text}

abbrev pub ok_or_none : Result Key ℕ → Option Key
ok_or_none (Ok key) = Some key
ok_or_none (Err n) = None

-- The key of a file in the folder of a drive, if its name there is valid. A name with a `:` is ignored.
abbrev pub key_in : ℕ → List ℕ → Option Key
key_in drive file = if list_any is_colon file then None else ok_or_none (name_without_drive drive file)

-- The name in the folder: as printed on drive A, so without a letter and `:`.
abbrev pub folder_name : Key → List ℕ
folder_name key = display_text (slice_set key 0 0)

-- Whether a folder needs a `/` after it: it is not empty, and its last byte is no `/`.
abbrev pub needs_slash : List ℕ → Bool
needs_slash folder = option_map_or (λ last. not (last == 47)) (slice_get folder (length folder - 1)) false

-- A folder and the name of a file in it, with a `/` between if needed.
abbrev pub path_text : List ℕ → List ℕ → List ℕ
path_text folder file = folder ++ (if needs_slash folder then 47 ∷ [] else []) ++ file
