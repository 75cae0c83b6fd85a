use Rattle.std.proofs.Common.{◌≡◌, drop}
use Rattle.filenames.specs.Names.{is_field}
use Rattle.filenames.proofs.field.is_field.Given as goal

abbrev pub invariant-loop-i : goal.invariant-loop-i
invariant-loop-i l = is_field (drop l.i l.field) ≡ is_field l.field
