-- The name of each call, and what its line shows besides. A call that the guide names and that is not there is `unsupported`, one that it
-- does not name `unknown`. ([Interface Guide 1979, system function summary]; what is shown: this project's profile.)
use Rattle.std.specs.Prelude.{ℕ, ◌==◌, ◌&&◌, ◌||◌, Bool, List, codes, if◌then◌else◌, nat_le}
use Rattle.trace_lines.specs.declared.forms.Argument.{Argument}
use Rattle.trace_lines.specs.declared.forms.Argument.TheVariants as argument
use Rattle.trace_lines.specs.declared.forms.Returned.{Returned}
use Rattle.trace_lines.specs.declared.forms.Returned.TheVariants as returned

abbrev pub call_name : ℕ → List ℕ
call_name n =
    if n == 0 then codes "system reset"
    else if n == 1 then codes "console input"
    else if n == 2 then codes "console output"
    else if n == 6 then codes "direct console i/o"
    else if n == 7 then codes "get i/o byte"
    else if n == 8 then codes "set i/o byte"
    else if n == 9 then codes "print string"
    else if n == 10 then codes "read console buffer"
    else if n == 11 then codes "get console status"
    else if n == 12 then codes "return version number"
    else if n == 13 then codes "reset disk system"
    else if n == 14 then codes "select disk"
    else if n == 15 then codes "open file"
    else if n == 16 then codes "close file"
    else if n == 17 then codes "search for first"
    else if n == 18 then codes "search for next"
    else if n == 19 then codes "delete file"
    else if n == 20 then codes "read sequential"
    else if n == 21 then codes "write sequential"
    else if n == 22 then codes "make file"
    else if n == 23 then codes "rename file"
    else if n == 24 then codes "return login vector"
    else if n == 25 then codes "return current disk"
    else if n == 26 then codes "set dma address"
    else if n == 33 then codes "read random"
    else if n == 34 then codes "write random"
    else if n == 35 then codes "compute file size"
    else if n == 36 then codes "set random record"
    else if n == 40 then codes "write random with zero fill"
    else if n == 3 || n == 4 || n == 5 || nat_le 27 n && nat_le n 32 || n == 37 then codes "unsupported"
    else codes "unknown"

-- What a call is given: E, DE, or the control block at DE, of which some calls use the new name or a record number too.
abbrev pub argument_of : ℕ → Argument
argument_of n =
    if n == 2 || n == 6 || n == 8 || n == 14 then argument.Byte
    else if n == 9 || n == 10 || n == 26 then argument.Word
    else if n == 15 || n == 16 || n == 17 || n == 19 || n == 22 || n == 35 || n == 36 then argument.File
    else if n == 23 then argument.Renaming
    else if n == 20 || n == 21 then argument.NextRecord
    else if n == 33 || n == 34 || n == 40 then argument.ChosenRecord
    else argument.Nothing

-- Whether a call reads a record into the buffer.
abbrev pub is_read : ℕ → Bool
is_read n = n == 20 || n == 33

-- What a call returns: nothing, A, or HL.
abbrev pub returned_of : ℕ → Returned
returned_of n =
    if n == 12 || n == 24 then returned.Word
    else if n == 0 || n == 2 || n == 8 || n == 9 || n == 10 || n == 13 || n == 14 || n == 26 then returned.Nothing
    else returned.Byte
