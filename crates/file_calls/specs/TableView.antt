-- The answers of the files that a run sees, and the questions that reach the host files for them. (This project's own.)
use Rattle.std.specs.Prelude.{List, [], ◌∷◌}
use Rattle.std.specs.Borrow.{GName}
use Rattle.hostfiles.specs.Entries.{Shape}
use Rattle.hostfiles.specs.Hosts.{Key, Host}
use Rattle.hostfiles.specs.Files.{OwnFiles, has, file_of, record_or_hole, entry_at, shapes}
use Rattle.hostfiles.specs.File.{shape_of}
use Rattle.hostfiles.specs.FileLooks.{look_has, look_length, look_content, look_directory}
use Rattle.hostfiles.specs.FileView.{view_own}
use Rattle.hostfiles.specs.declared.looks.FileLooks.{FileLooks}
use Rattle.hostfiles.specs.declared.file_view.FileView.{FileView}
use Rattle.cpmfiles.specs.declared.table.Table.{Table}
use Rattle.file_calls.specs.FileQuestions.{FileQuestion, IsThere, ShapeOf, Content, FilesOn, FileAnswers, files_on}

-- Host files, what a run did to them, its looks at them, and the reference that lends the latter two.
pub record TableView : Type 0 where
  pub host : Host
  pub own : OwnFiles
  pub looks : FileLooks
  pub lender : GName

abbrev pub table_view : Table → TableView
table_view t = record { host = t.host.now; own = t.changes.now.journal.entries; looks = t.changes.now.looks; lender = t.changes.ghost_name }

-- The shape of the file of a key: for each record number whether there is a record.
unfoldable pub shape_of_key : Host → OwnFiles → Key → Shape
shape_of_key host own key = shape_of (file_of host key (entry_at own key))

-- The shape of a file that was found.
abbrev pub shape_of_view : FileView → Shape
shape_of_view f = shape_of_key f.host.now (view_own f) f.key

-- The answers of the current files.
abbrev pub file_answers : Host → OwnFiles → FileAnswers
file_answers host own (IsThere key) = has host own key
file_answers host own (ShapeOf key) = shape_of_key host own key
file_answers host own (Content key k) = record_or_hole host key (entry_at own key) k
file_answers host own (FilesOn drive) = files_on drive (shapes host own)

-- The looks after a question: what is own answers without a look.
abbrev pub look_for : OwnFiles → FileQuestion → FileLooks → FileLooks
look_for own (IsThere key) l = look_has own key l
look_for own (ShapeOf key) l = look_length own key l
look_for own (Content key k) l = look_content own key k l
look_for own (FilesOn drive) l = look_directory drive l

abbrev pub look_for_all : OwnFiles → List FileQuestion → FileLooks → FileLooks
look_for_all own [] l = l
look_for_all own (q ∷ qs) l = look_for_all own qs (look_for own q l)
