use Rattle.std.proofs.Common.{◌∙◌}
use Rattle.filenames.specs.Drives.{drive_number}
use Rattle.one_run.specs.ChangedList.{changed_by}
use Rattle.one_run.specs.DryRun.{is_on_disk_of}
use Rattle.one_run.proofs.Walking.{any_viewed}
use Rattle.one_run.proofs.dry_run.would_leave.Goals as goal

pub returns-in-Unchanged : goal.returns-in-Unchanged
returns-in-Unchanged c =
    rw c.in-Unchanged.is (c.has_entry_on_disk_of.ensures ∙ any_viewed changed_by (is_on_disk_of (drive_number c.args.drive)) c.args.entries.now)
