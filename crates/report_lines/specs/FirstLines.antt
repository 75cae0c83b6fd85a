-- The first lines of a report, and the line of its console text. (This project's own.)
use Rattle.std.specs.Prelude.{ℕ, ◌/◌, ◌%◌, List, [], ◌∷◌, ◌++◌, codes}
use Rattle.std.specs.Fmt.{decimal}
use Rattle.hex.specs.Hex.{encode_lower, encode_upper}
use Rattle.machine.specs.Flags.{byte_of}
pub use Rattle.streams.specs.Lines.{line}
use Rattle.machine.specs.Regs.{Regs}
use Rattle.machine.specs.Cause.{Cause}
use Rattle.machine.specs.Cause.TheVariants.{WarmBoot, Halt, Limit, Undefined, SystemArea, ConsoleExhausted, NoDollar, Unsupported, BadDrive}

-- `-` for no byte, or else two lower-case digits for each byte.
abbrev pub hex_text : List ℕ → List ℕ
hex_text [] = codes "-"
hex_text (b ∷ bs) = encode_lower (b ∷ bs)

-- Two upper-case digits.
abbrev pub byte_text : ℕ → List ℕ
byte_text b = encode_upper (b ∷ [])

-- Four upper-case digits, the high byte first.
abbrev pub word_text : ℕ → List ℕ
word_text w = encode_upper (w / 256 ∷ w % 256 ∷ [])

abbrev pub cause_text : Cause → List ℕ
cause_text WarmBoot = codes "WarmBoot"
cause_text Halt = codes "Halt"
cause_text Limit = codes "Limit"
cause_text (Undefined byte) = codes "Undefined " ++ byte_text byte
cause_text (SystemArea address) = codes "SystemArea " ++ word_text address
cause_text ConsoleExhausted = codes "ConsoleExhausted"
cause_text NoDollar = codes "NoDollar"
cause_text (Unsupported number) = codes "Unsupported " ++ decimal number
cause_text (BadDrive number) = codes "BadDrive " ++ decimal number

-- The line that says why a run stopped.
abbrev pub stop_line : Cause → List ℕ
stop_line cause = line (codes "stop " ++ cause_text cause)

-- Each register after its name, with F for the flag byte.
abbrev pub regs_text : Regs → List ℕ
regs_text r =
    codes "regs A=" ++ byte_text r.a ++ codes " F=" ++ byte_text (byte_of r.flags)
    ++ codes " B=" ++ byte_text r.b ++ codes " C=" ++ byte_text r.c
    ++ codes " D=" ++ byte_text r.d ++ codes " E=" ++ byte_text r.e
    ++ codes " H=" ++ byte_text r.h ++ codes " L=" ++ byte_text r.l
    ++ codes " SP=" ++ word_text r.sp ++ codes " PC=" ++ word_text r.pc

abbrev pub steps_line : ℕ → List ℕ
steps_line steps = line (codes "steps " ++ decimal steps)

-- Why a run stopped, after how many steps, and with which registers.
abbrev pub report_head : Cause → ℕ → Regs → List ℕ
report_head cause steps regs = stop_line cause ++ steps_line steps ++ line (regs_text regs)

-- The line of the console text.
abbrev pub text_line : List ℕ → List ℕ
text_line text = line (codes "text " ++ hex_text text)
