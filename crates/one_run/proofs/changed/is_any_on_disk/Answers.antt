use Rattle.std.proofs.Common.{◌∙◌}
use Rattle.one_run.specs.ChangedList.{changed_by, is_on_disk}
use Rattle.one_run.proofs.Walking.{any_viewed}
use Rattle.one_run.proofs.changed.is_any_on_disk.Goals as goal

pub returns : goal.returns
returns c = c.has_entry_on_disk.ensures ∙ any_viewed changed_by is_on_disk c.args.entries.now
