use Rattle.std.proofs.Common.{◌≡◌, [], take, unwrap_or}
use Rattle.std.specs.List.{concat}
use Rattle.streams.specs.Pushing.{more}
use Rattle.hex.specs.Hex.{encode_lower}
use Rattle.hostfiles.specs.FileView.{view_contents}
use Rattle.report_lines.proofs.changed_lines.push_records.Given as goal

-- The first records are there.
abbrev pub invariant-loop-number : goal.invariant-loop-number
invariant-loop-number g l = g.X.Text.pushed l.text ≡ more (g.X.Text.pushed l.initial.text) (encode_lower (concat (take l.number (unwrap_or (view_contents l.file) []))))
