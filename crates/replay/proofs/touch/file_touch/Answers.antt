use Rattle.std.proofs.Common.{option_copied}
use Rattle.replay.proofs.FileTouch.{file_touched}
use Rattle.replay.proofs.touch.file_touch.Goals as goal

pub returns : goal.returns
returns c = file_touched c.args.session.now c.args.key.now (option_copied c.args.new) c.args.looks.now c.touch_of_change.result _ _ _ c.files-2.ensures c.files.ensures c.seen.ensures c.touch_of_change.ensures
