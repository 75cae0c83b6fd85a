use Rattle.hostfiles.proofs.FileLemmas.{get-shapes}
use Rattle.hostfiles.proofs.directory_view.DirectoryViewDirectoryFiles.file.Goals as goal

pub returns : goal.returns
returns c = rw (c.find.ensures.host, c.find.ensures.journal, c.find.ensures.key, get-shapes)
