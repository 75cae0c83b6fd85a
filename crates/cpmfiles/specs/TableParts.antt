-- The effect of a call on a table. (This project's own.)
use Rattle.std.specs.Prelude.{◌≡◌, ◌⊎◌, Bool, true, if◌then◌else◌, IfOk, OnErr}
use Rattle.std.specs.declared.result.Result.{Result}
use Rattle.std.specs.declared.alloc.AllocError.{AllocError}
use Rattle.hostfiles.specs.Files.{OwnFiles}
use Rattle.hostfiles.specs.FileLooks.{HasNewAsk}
use Rattle.hostfiles.specs.Asking.{AsksFor}
use Rattle.hostfiles.specs.declared.looks.FileLooks.{FileLooks}
use Rattle.cpmfiles.specs.declared.table.Table.{Table}

-- What was done to the files, and the looks at the host files.
abbrev pub own_of_table : Table → OwnFiles
own_of_table t = t.changes.now.journal.entries

abbrev pub looks_of_table : Table → FileLooks
looks_of_table t = t.changes.now.looks

-- The table has the same host files and the same reference to its changes.
pub record StandsOver (old new : Table) : Type 0 where
  pub host : new.host.now ≡ old.host.now
  pub lender : new.changes.ghost_name ≡ old.changes.ghost_name

-- What a call needs memory for: to note a question that was not asked before, or to change files.
abbrev pub NeedsMemory : FileLooks → FileLooks → Bool → Type 0
NeedsMemory before after changes = HasNewAsk before after ⊎ (changes ≡ true)

-- The call asks these questions, and makes this change if the wanted answer is yes; if it is no, or on an error, the call changes
-- no file. An allocation fails only to note a question that was not asked before, or to make the change.
pub record DoesIf (result : Result Bool AllocError) (wanted : Bool) (look : FileLooks → FileLooks) (change : OwnFiles) (old new : Table) : Type 0 where
  pub asks : AsksFor result wanted look (looks_of_table old) (looks_of_table new)
  pub done : IfOk result (λ b. own_of_table new ≡ (if b then change else own_of_table old))
  pub err : OnErr result (own_of_table new ≡ own_of_table old)
  pub refused : OnErr result (NeedsMemory (looks_of_table old) (look (looks_of_table old)) wanted)
  pub over : StandsOver old new
