-- The bytes that are written into a folder. (This project's own.)
use Rattle.std.specs.Prelude.{ℕ, List, [], unwrap_or}
use Rattle.std.specs.List.{concat}
use Rattle.hostfiles.specs.FileView.{view_contents}
use Rattle.hostfiles.specs.declared.file_view.FileView.{FileView}
use Rattle.folders.specs.declared.contents.Written.{Written}
use Rattle.folders.specs.declared.contents.Written.TheVariants.{File, Text}

-- The contents of a file, its records one after the other, or nothing if there is no file.
abbrev pub file_bytes : FileView → List ℕ
file_bytes file = concat (unwrap_or (view_contents file) [])

abbrev pub written_bytes : Written → List ℕ
written_bytes (File file) = file_bytes file
written_bytes (Text text) = text.now
