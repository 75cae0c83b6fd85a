-- A file by the bytes of its name. (This project's own.)
use Rattle.std.specs.Prelude.{ℕ, List, ◌++◌, codes}
use Rattle.hex.specs.Hex.{encode_lower}
use Rattle.filenames.specs.Names.{Key}

-- `=`, and two lower-case digits for the drive and for each of the eleven bytes.
abbrev pub key_digits : Key → List ℕ
key_digits key = codes "=" ++ encode_lower key
