-- The parts of a control block that calls read. (This project's own.)
use Rattle.std.specs.Prelude.{ℕ}
use Rattle.bdos.specs.declared.calls.BlockLength.{BlockLength}
use Rattle.bdos.specs.declared.calls.BlockLength.TheVariants.{Sequential, Random}

-- The number of bytes of a part.
abbrev pub byte_count : BlockLength → ℕ
byte_count Sequential = 33
byte_count Random = 36
