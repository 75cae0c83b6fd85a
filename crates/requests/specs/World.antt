-- What the program acts on, as a contract sees it. (This project's own.)
use Rattle.folders.specs.FileSystem.{StoredFiles}
use Rattle.streams.specs.Streams.{Output}

-- The files, standard output and standard error.
pub record World : Type 0 where
  pub files : StoredFiles
  pub out : Output
  pub err : Output

abbrev pub world : StoredFiles → Output → Output → World
world files out err = record { files = files; out = out; err = err }
