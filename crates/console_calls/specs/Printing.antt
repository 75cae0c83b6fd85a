-- The effect of printing a string from memory. ([Interface Guide 1979, function 9]; what is left if there is no `$`, and if memory
-- runs out: this project's own.)
use Rattle.std.specs.Prelude.{◌≡◌, ℕ, Bool, true, List, Option, Some, None, is_some, length, take, ◌≤◌, IfOk, OnOk, OnErr}
use Rattle.std.specs.declared.result.Result.{Result}
use Rattle.std.specs.declared.alloc.AllocError.{AllocError}
use Rattle.i8080.specs.Memory.{Memory, Extends, bytes}
use Rattle.i8080.specs.Reading.{end_of}
use Rattle.i8080.specs.Performs.{looks_after}
use Rattle.console_calls.specs.Desk.{Desk}
use Rattle.console_calls.specs.DeskAfter.{desk_printing}
use Rattle.console_calls.specs.Strings.{string_at}

-- The string from an address on, if a `$` ends it.
abbrev pub string_in : ℕ → Memory → Option (List ℕ)
string_in at m = end_of (string_at 65536 at) (bytes m)

-- The desk after the string, unchanged if there is none.
abbrev pub desk_after_string : Desk → Option (List ℕ) → Desk
desk_after_string d None = d
desk_after_string d (Some string) = desk_printing d string

-- Text was only added, and nothing was taken.
pub record GrowsText (d d' : Desk) : Type 0 where
  pub longer : length d.text ≤ length d'.text
  pub since : take (length d.text) d'.text ≡ d.text
  pub cursor : d'.spot.cursor ≡ d.spot.cursor

-- The effect of a function that reads the string: whether there is one, and the looks. After an error there are some of these looks.
pub record ReadsString (at : ℕ) (m : Memory) (result : Result Bool AllocError) (m' : Memory) : Type 0 where
  pub found : IfOk result (λ b. b ≡ is_some (string_in at m))
  pub looks : OnOk result (m'.looks ≡ looks_after (string_at 65536 at) m)
  pub err_looks : OnErr result (Extends m.looks m'.looks)
  pub err_bound : OnErr result (Extends m'.looks (looks_after (string_at 65536 at) m))
  pub own : m'.own ≡ m.own
  pub beneath : m'.beneath ≡ m.beneath
  pub lender : m'.lender ≡ m.lender

-- The effect of a function that prints byte by byte: without a `$`, and on an error, some bytes stay printed.
pub record Scans (at : ℕ) (m : Memory) (d : Desk) (result : Result Bool AllocError) (m' : Memory) (d' : Desk) : Type 0 where
  pub reads : ReadsString at m result m'
  pub printed : IfOk result (λ b. b ≡ true → d' ≡ desk_after_string d (string_in at m))
  pub grown : GrowsText d d'

-- The effect of a function that prints the whole string or nothing.
pub record Prints (at : ℕ) (m : Memory) (d : Desk) (result : Result Bool AllocError) (m' : Memory) (d' : Desk) : Type 0 where
  pub reads : ReadsString at m result m'
  pub desk : OnOk result (d' ≡ desk_after_string d (string_in at m))
  pub err_desk : OnErr result (d' ≡ d)
