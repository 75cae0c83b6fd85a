-- Reads and writes of memories with the same bytes.
use Rattle.std.proofs.Common.{◌≡◌, ℕ, Bool, true, false, cond, ◌==◌, List, [], ◌∷◌, Option, Some, unwrap_or, refl, sym, ◌∙◌, ap}
use Rattle.std.proofs.Math.Path.{fun_ext}
use Rattle.i8080.specs.Memory.{Memory, bytes, write}
use Rattle.pagemem.specs.Agreement.{accessed, reads_of, MemoriesAgree}
use Rattle.pagemem.specs.Agreement.Access.{Read, Write}

-- The bytes after a write.
written : (m : Memory) (a v : ℕ) → bytes (accessed m (Write a v)) ≡ (λ q. cond (q == a) v (bytes m q))
unfolding write
written m a v = fun_ext (λ q. pick (q == a) (m.own q) (m.beneath q)) where
  pick : (e : Bool) (o : Option ℕ) (b : ℕ) → unwrap_or (cond e (Some v) o) b ≡ cond e v (unwrap_or o b)
  pick true o b = refl
  pick false o b = refl

pub same_bytes_read_the_same : MemoriesAgree
same_bytes_read_the_same m n e [] = refl
same_bytes_read_the_same m n e (Read a ∷ rest) =
    ap (λ (f : ℕ → ℕ). f a ∷ reads_of (accessed m (Read a)) rest) e
    ∙ ap (λ (l : List ℕ). bytes n a ∷ l) (same_bytes_read_the_same (accessed m (Read a)) (accessed n (Read a)) e rest)
same_bytes_read_the_same m n e (Write a v ∷ rest) =
    same_bytes_read_the_same (accessed m (Write a v)) (accessed n (Write a v))
    (written m a v ∙ ap (λ (f : ℕ → ℕ). λ q. cond (q == a) v (f q)) e ∙ sym (written n a v)) rest
