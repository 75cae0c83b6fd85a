-- The bytes of an instruction that follow its opcode. [8080 manual 1975, chapter 4, instruction set]
use Rattle.std.specs.Prelude.{ℕ, ◌+◌, Option, Some, None}
use Rattle.i8080.specs.declared.opcode.Op.{Op}
use Rattle.i8080.specs.declared.opcode.Op.TheVariants.{Mvi, Lxi, Lda, Sta, Lhld, Shld, Accumulate, Jmp, JumpIf, Call, CallIf, In, Out}
use Rattle.i8080.specs.declared.opcode.Source.TheVariants.{Immediate}

-- How many bytes of operand follow the opcode.
abbrev pub operand_count : Op → ℕ
operand_count (Mvi _) = 1
operand_count (Accumulate _ Immediate) = 1
operand_count In = 1
operand_count Out = 1
operand_count (Lxi _) = 2
operand_count Lda = 2
operand_count Sta = 2
operand_count Lhld = 2
operand_count Shld = 2
operand_count Jmp = 2
operand_count (JumpIf _) = 2
operand_count Call = 2
operand_count (CallIf _) = 2
operand_count _ = 0

-- How many bytes an instruction has. An undefined byte is alone.
abbrev pub byte_count : Option Op → ℕ
byte_count None = 1
byte_count (Some op) = 1 + operand_count op
