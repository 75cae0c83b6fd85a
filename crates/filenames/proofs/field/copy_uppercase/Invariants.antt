use Rattle.std.proofs.Common.{◌≡◌, ◌++◌, map, take, drop}
use Rattle.std.specs.Char.{to_ascii_uppercase}
use Rattle.filenames.proofs.field.copy_uppercase.Given as goal

abbrev pub invariant-loop-i : goal.invariant-loop-i
invariant-loop-i l = l.field ≡ map to_ascii_uppercase (take l.i l.text) ++ drop l.i l.fn.field
