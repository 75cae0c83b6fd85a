use Rattle.std.proofs.Common.{[], take, unwrap_or}
use Rattle.std.specs.List.{concat}
use Rattle.std.specs.Io.KnownBytes.{Appends}
use Rattle.hostfiles.specs.FileView.{view_contents}
use Rattle.folders.proofs.contents.FileViewContents.write_to.Given as goal

abbrev pub invariant-loop-number : goal.invariant-loop-number
invariant-loop-number g l =
    Appends (g.W.Write.contents l.fn.writer) (g.W.Write.contents l.writer) (concat (take l.number (unwrap_or (view_contents l.self) [])))
