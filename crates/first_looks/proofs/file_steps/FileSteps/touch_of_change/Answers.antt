use Rattle.std.specs.Prelude.{option_copied}
use Rattle.first_looks.proofs.LeastLemmas.{file_touch_by, lesser_by}
use Rattle.first_looks.proofs.file_steps.FileSteps.touch_of_change.Goals as goal

pub returns : goal.returns
returns c =
    let first = rw c.get.ensures at (lesser_by c.is_same_presence-is_same.result c.get.result c.args.least c.lesser_step_unless-has.result c.lesser_step_unless-has.ensures) in
    let second = rw c.get-2.ensures at (lesser_by c.is_same_length-is_same.result c.get-2.result c.lesser_step_unless-has.result c.lesser_step_unless-length.result c.lesser_step_unless-length.ensures) in
    let third = rw c.get-3.ensures at (lesser_by c.is_same_length-is_same.result c.get-3.result c.lesser_step_unless-length.result c.lesser_step_unless-directory.result c.lesser_step_unless-directory.ensures) in
    file_touch_by c.args.old.now c.args.key.now (option_copied c.file-before.result) (option_copied c.args.new) c.args.self.now c.file-before.ensures
    c.is_same_presence-is_same.result c.is_same_length-is_same.result c.is_same_presence-is_same.ensures c.is_same_length-is_same.ensures
    c.args.least c.lesser_step_unless-has.result c.lesser_step_unless-length.result c.lesser_step_unless-directory.result c.touch_of_records.result first second third c.touch_of_records.ensures
