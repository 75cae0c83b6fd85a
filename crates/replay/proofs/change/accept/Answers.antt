use Rattle.replay.proofs.change.accept.Goals as goal

pub returns-in-SetFile-clause-refused : goal.returns-in-SetFile-clause-refused
returns-in-SetFile-clause-refused c = rw c.in-SetFile.is c.accept_file.ensures.refused
