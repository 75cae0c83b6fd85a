use Rattle.std.proofs.Common.{◌≡◌}
use Rattle.std.specs.List.{slice_get}
use Rattle.directory.specs.Parts.{file_entries_from}
use Rattle.directory.proofs.search.first_from.Given as goal

abbrev pub invariant-loop-extent : goal.invariant-loop-extent
invariant-loop-extent g l = slice_get (file_entries_from l.key (g.F.FileShape.shape l.file) l.extent) 0 ≡ slice_get (file_entries_from l.key (g.F.FileShape.shape l.file) l.fn.from) 0
