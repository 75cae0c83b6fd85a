use Rattle.std.proofs.Common.{◌∙◌}
use Rattle.one_run.specs.ChangedList.{changed_by, is_unplaced}
use Rattle.one_run.proofs.Walking.{first_viewed}
use Rattle.one_run.proofs.changed.first_unplaced.Goals as goal

pub returns : goal.returns
returns c = c.first_unplaced_entry.ensures ∙ first_viewed changed_by is_unplaced (λ d. d.key) c.args.entries.now
