-- The options of a runner: their ranges, and the numbers of the refusals. (This project's own.)
use Rattle.std.specs.Prelude.{◌≡◌, ℕ, ◌==◌, ◌||◌, nat_lt, if◌then◌else◌, Option, Some, None}
use Rattle.replay.specs.declared.options.Options.{Options}
use Rattle.replay.specs.declared.options.OptionsError.{OptionsError}
use Rattle.replay.specs.declared.options.OptionsError.TheVariants.{Spacing, Slots, OutOfMemory}

abbrev pub options_error_number : OptionsError → ℕ
options_error_number Spacing = 1
options_error_number Slots = 2
options_error_number OutOfMemory = 3

-- The refusal of options outside 1 to 1,000,000,000 steps and 1 to 4,096 slots, or none.
abbrev pub refusal_of : Options → Option ℕ
refusal_of o =
    if o.spacing == 0 || nat_lt 1000000000 o.spacing then Some 1
    else if o.slots == 0 || nat_lt 4096 o.slots then Some 2
    else None

-- The refusal that applies. Out of memory is a refusal of options that are within their ranges.
abbrev pub RefusedBy : Options → OptionsError → Type 0
RefusedBy o Spacing = refusal_of o ≡ Some 1
RefusedBy o Slots = refusal_of o ≡ Some 2
RefusedBy o OutOfMemory = refusal_of o ≡ None
