use Rattle.std.proofs.Common.{◌≡◌, length}
use Rattle.streams.specs.Pushing.{more}
use Rattle.hostfiles.specs.Changed.{changed_names}
use Rattle.hostfiles.proofs.ChangedWalk.{keys_above}
use Rattle.report_lines.proofs.ReportPieces.{all_parts, own_line, parts_above}
use Rattle.report_lines.proofs.changed_lines.push_changed_files.Given as goal

-- The lines of the names above the last one are left.
abbrev pub invariant-loop-changed : goal.invariant-loop-changed
invariant-loop-changed g l =
    let own = own_line l.filter l.host l.journal.entries in
    more (g.X.Text.pushed l.text) (parts_above own l.host l.journal.entries l.after) ≡ more (g.X.Text.pushed l.initial.text) (all_parts own l.host l.journal.entries)

abbrev pub decreases-loop-changed : goal.decreases-loop-changed
decreases-loop-changed g l = length (keys_above (changed_names l.host l.journal.entries) l.after)
