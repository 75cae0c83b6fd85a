-- The calls by their numbers. ([Interface Guide 1979, system function summary]; function 40 is its "write random with zero
-- fill"; which of its calls are there: this project's profile.)
use Rattle.std.specs.Prelude.{ℕ, ◌==◌, if◌then◌else◌}
use Rattle.interaction_trees.specs.Tree.{Return}
use Rattle.i8080.specs.declared.registers.Regs.{Regs}
use Rattle.console_calls.specs.declared.desk.Spot.{Spot}
use Rattle.console_calls.specs.ConsoleCalls as desk_calls
use Rattle.file_calls.specs.declared.function.FileFunction.TheVariants.{Open, Close, SearchFirst, ReadSequential, WriteSequential, Make, Rename, ReadRandom, WriteRandom, FileSize, SetRandomRecord, WriteRandomZeroFill}
use Rattle.file_calls.specs.Changes.{Unchanged}
use Rattle.bdos.specs.declared.function.SystemFunction.{SystemFunction}
use Rattle.bdos.specs.declared.function.SystemFunction.TheVariants.{OfFile, SearchNext, DeleteFile, OfDesk}
use Rattle.bdos.specs.SystemQuestions.{SystemTree, bind_state}
use Rattle.bdos.specs.FileCalls.{SystemEnd, file_call, delete_call, search_next_call}

abbrev pub system_function : ℕ → SystemFunction
system_function number =
    if number == 15 then OfFile Open
    else if number == 16 then OfFile Close
    else if number == 17 then OfFile SearchFirst
    else if number == 18 then SearchNext
    else if number == 19 then DeleteFile
    else if number == 20 then OfFile ReadSequential
    else if number == 21 then OfFile WriteSequential
    else if number == 22 then OfFile Make
    else if number == 23 then OfFile Rename
    else if number == 33 then OfFile ReadRandom
    else if number == 34 then OfFile WriteRandom
    else if number == 35 then OfFile FileSize
    else if number == 36 then OfFile SetRandomRecord
    else if number == 40 then OfFile WriteRandomZeroFill
    else OfDesk

-- A call, over a script of at most n bytes. The calls of the desk are defined by their numbers in the crate `console_calls`.
abbrev pub call_of_system : ℕ → SystemFunction → Regs → Spot → SystemTree SystemEnd
call_of_system n (OfFile f) r spot = file_call f r spot
call_of_system n SearchNext r spot = search_next_call r spot
call_of_system n DeleteFile r spot = delete_call r spot
call_of_system n OfDesk r spot = bind_state (desk_calls.console_call n r spot) (λ e. Return (e, Unchanged))

-- The call whose number is in C.
unfoldable pub call : ℕ → Regs → Spot → SystemTree SystemEnd
call n r spot = call_of_system n (system_function r.c) r spot
