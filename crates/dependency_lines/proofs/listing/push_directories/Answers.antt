use Rattle.streams.proofs.Pushes.{four_pushed}
use Rattle.dependency_lines.proofs.listing.push_directories.Goals as goal

pub returns : goal.returns
returns g c =
    four_pushed _ _ _ _ _ _ _ _ _ (rw c.alone.ensures.text at c.push_step_line.ensures) (rw c.alone-2.ensures.text at c.push_step_line-2.ensures)
    (rw c.alone-3.ensures.text at c.push_step_line-3.ensures) (rw c.alone-4.ensures.text at c.push_step_line-4.ensures)
