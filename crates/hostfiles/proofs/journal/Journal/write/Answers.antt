use Rattle.std.proofs.Common.{rules}
use Rattle.hostfiles.proofs.JournalLemmas.{put_back}
use Rattle.hostfiles.proofs.journal.Journal.write.Goals as goal

pub returns-in-Some-clause-err : goal.returns-in-Some-clause-err
returns-in-Some-clause-err c =
    let (x, y, there, leaves, put) = c.in-Some.ensures.some in
    put_back c.in-Some.written _ _ _ x y there put (search rules)
