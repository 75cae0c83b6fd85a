-- What contracts see of a file that was found. (This project's own.)
use Rattle.std.specs.Prelude.{ℕ, Bool, List, Option}
use Rattle.directory.specs.Entries.{Shape}
use Rattle.hostfiles.specs.Hosts.{Record}
use Rattle.hostfiles.specs.Files.{OwnFiles, entry_at, file_contents, file_of, has, length_at, record_or_hole}
use Rattle.hostfiles.specs.File.{shape_of}
use Rattle.hostfiles.specs.declared.journal.Entry.{Entry}
use Rattle.hostfiles.specs.declared.file_view.FileView.{FileView}

-- What was done to all files, and to this one.
abbrev pub view_own : FileView → OwnFiles
view_own f = f.journal.now.entries

abbrev pub view_entry : FileView → Entry
view_entry f = entry_at (view_own f) f.key

-- Whether there is a file, its length, the record with a number below the length, and its shape.
abbrev pub is_view_there : FileView → Bool
is_view_there f = has f.host.now (view_own f) f.key

abbrev pub view_length : FileView → ℕ
view_length f = length_at f.host.now (view_own f) f.key

abbrev pub view_record : FileView → ℕ → Option Record
view_record f k = record_or_hole f.host.now f.key (view_entry f) k

abbrev pub view_shape : FileView → Shape
view_shape f = shape_of (file_of f.host.now f.key (view_entry f))

-- The contents of the file, if there is one.
abbrev pub view_contents : FileView → Option (List Record)
view_contents f = file_contents f.host.now (view_own f) f.key
