use Rattle.std.proofs.Common.{◌≡◌, drop, map}
use Rattle.std.specs.List.{list_all}
use Rattle.std.specs.Char.{to_ascii_uppercase}
use Rattle.filenames.specs.Names.{is_allowed}
use Rattle.filenames.proofs.field.all_allowed.Given as goal

abbrev pub invariant-loop-i : goal.invariant-loop-i
invariant-loop-i l = list_all is_allowed (map to_ascii_uppercase (drop l.i l.text)) ≡ list_all is_allowed (map to_ascii_uppercase l.text)
