-- The results and effects of functions that ask about files and do nothing to them. (This project's own.)
use Rattle.std.specs.Prelude.{◌≡◌, IfOk, OnOk, OnErr}
use Rattle.std.specs.declared.result.Result.{Result}
use Rattle.std.specs.declared.alloc.AllocError.{AllocError}
use Rattle.hostfiles.specs.Files.{OwnFiles}
use Rattle.hostfiles.specs.FileLooks.{HasNewAsk, KeepsAsks}
use Rattle.hostfiles.specs.declared.changes.Changes.{Changes}
use Rattle.hostfiles.specs.declared.looks.FileLooks.{FileLooks}

-- The function returns the wanted answer and marks the questions of `look`. If an allocation fails, it has marked at most
-- these. No question is removed.
pub record AsksFor {A : Type 0} (result : Result A AllocError) (wanted : A) (look : FileLooks → FileLooks) (old new : FileLooks) : Type 0 where
  pub answer : IfOk result (λ a. a ≡ wanted)
  pub looks : OnOk result (new ≡ look old)
  pub extends : KeepsAsks old new
  pub bound : OnErr result (KeepsAsks new (look old))

-- The same over changes: the answer and the questions depend on the journal, which stays the same. An allocation fails only if
-- the function asks a question that was not asked before.
pub record Inquires {A : Type 0} (result : Result A AllocError) (wanted : OwnFiles → A) (look : OwnFiles → FileLooks → FileLooks) (old new : Changes) : Type 0 where
  pub answer : IfOk result (λ a. a ≡ wanted old.journal.entries)
  pub looks : OnOk result (new.looks ≡ look old.journal.entries old.looks)
  pub extends : KeepsAsks old.looks new.looks
  pub bound : OnErr result (KeepsAsks new.looks (look old.journal.entries old.looks))
  pub refused : OnErr result (HasNewAsk old.looks (look old.journal.entries old.looks))
  pub stays : new.journal ≡ old.journal
