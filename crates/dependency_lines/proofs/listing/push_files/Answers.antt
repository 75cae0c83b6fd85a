use Rattle.streams.proofs.Pushes.{four_pushed}
use Rattle.dependency_lines.proofs.listing.push_files.Goals as goal

pub returns : goal.returns
returns g c =
    four_pushed _ _ _ _ _ _ _ _ _ (rw (c.files-host.ensures, c.files-asked.ensures) at c.push_kind.ensures) (rw (c.files-host.ensures, c.files-asked.ensures) at c.push_kind-2.ensures)
    (rw (c.files-host.ensures, c.files-asked.ensures) at c.push_kind-3.ensures) (rw (c.files-host.ensures, c.files-asked.ensures) at c.push_kind-4.ensures)
