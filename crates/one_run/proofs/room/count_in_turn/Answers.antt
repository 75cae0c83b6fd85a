use Rattle.std.proofs.Common.{sym, ◌∙◌}
use Rattle.filenames.specs.Drives.{drive_number}
use Rattle.folders.proofs.CaseLemmas.{filter-map}
use Rattle.one_run.specs.ChangedList.{changed_by}
use Rattle.one_run.specs.Room.{is_in_turn}
use Rattle.one_run.proofs.room.count_in_turn.Goals as goal

pub returns : goal.returns
returns c = c.count_entries.ensures ∙ sym (filter-map (is_in_turn (drive_number c.args.drive) c.args.turn) changed_by c.args.entries.now)
