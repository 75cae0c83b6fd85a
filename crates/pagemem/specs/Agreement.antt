-- What a run of reads and writes reads from a memory. (This project's own.)
use Rattle.std.specs.Prelude.{◌≡◌, ℕ, List, [], ◌∷◌}
use Rattle.i8080.specs.Memory.{Memory, bytes, look, write}

-- A read of a cell, or a write of a byte to it.
pub data Access : Type 0 where
  Read : ℕ → Access
  Write : ℕ → ℕ → Access

-- The memory after an access, as the calls of `Bus` leave it.
abbrev pub accessed : Memory → Access → Memory
accessed m (Read a) = record m { looks = look m.own m.looks a }
accessed m (Write a v) = record m { own = write m.own a v }

-- The bytes that the reads of a run return, in order.
abbrev pub reads_of : Memory → List Access → List ℕ
reads_of m [] = []
reads_of m (Read a ∷ rest) = bytes m a ∷ reads_of (accessed m (Read a)) rest
reads_of m (Write a v ∷ rest) = reads_of (accessed m (Write a v)) rest

-- Memories with the same bytes, such as a view and plain memory, return the same bytes in every run of reads and writes.
abbrev pub MemoriesAgree : Type 0
MemoriesAgree = (m n : Memory) → bytes m ≡ bytes n → (run : List Access) → reads_of m run ≡ reads_of n run
