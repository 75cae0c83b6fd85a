use Rattle.std.proofs.Common.{◌∙◌}
use Rattle.one_run.specs.ChangedList.{changed_by}
use Rattle.one_run.specs.Room.{is_elsewhere}
use Rattle.one_run.proofs.Walking.{any_viewed}
use Rattle.one_run.proofs.room.is_any_elsewhere.Goals as goal

pub returns : goal.returns
returns c = c.has_entry_elsewhere.ensures ∙ any_viewed changed_by (is_elsewhere c.args.name.now c.args.path.now) c.args.entries.now
