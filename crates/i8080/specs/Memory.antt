-- Memory as an instruction sees it, bytes by address, and what counts as a look. ([8080 manual 1975, chapter 4, memory]; what
-- counts as a look: this project's own.)
use Rattle.std.specs.Prelude.{◌≡◌, ◌==◌, ◌||◌, if◌then◌else◌, ℕ, Bool, false, List, [], ◌∷◌, ◌++◌, length, take, Option, Some, is_some, unwrap_or}
use Rattle.std.specs.Borrow.{GName}

-- The byte that was written at each address, if any.
abbrev pub Own : Type 0
Own = ℕ → Option ℕ

-- The addresses that were looked at, each once, in the order of their first looks.
abbrev pub Looks : Type 0
Looks = List ℕ

abbrev pub is_among : ℕ → List ℕ → Bool
is_among a [] = false
is_among a (x ∷ xs) = a == x || is_among a xs

-- The written bytes, the bytes beneath them, the looks, and the reference that lends all of this.
pub record Memory : Type 0 where
  pub own : Own
  pub beneath : ℕ → ℕ
  pub looks : Looks
  pub lender : Option GName

-- The byte at each address: the written one if there is one, otherwise the one beneath.
abbrev pub over : Own → (ℕ → ℕ) → ℕ → ℕ
over own beneath = λ q. unwrap_or (own q) (beneath q)

abbrev pub bytes : Memory → ℕ → ℕ
bytes m = over m.own m.beneath

-- A read is a look at its cell, unless the cell was written. Looks at the same cell count once.
unfoldable pub look : Own → Looks → ℕ → Looks
look own looks a = if is_some (own a) || is_among a looks then looks else looks ++ a ∷ []

unfoldable pub write : Own → ℕ → ℕ → Own
write own a v = λ q. if q == a then Some v else own q

-- The looks after several reads.
abbrev pub look_all : Own → List ℕ → Looks → Looks
look_all own [] looks = looks
look_all own (a ∷ rest) looks = look_all own rest (look own looks a)

-- The new list begins with the old one.
abbrev pub Extends : List ℕ → List ℕ → Type 0
Extends old new = take (length old) new ≡ old

-- The written bytes after several writes, in order.
abbrev pub write_all : Own → List (ℕ × ℕ) → Own
write_all own [] = own
write_all own (w ∷ rest) = write_all (write own w.0 w.1) rest

-- The memory after a read of a cell, and after several writes, in order.
abbrev pub with_look : ℕ → Memory → Memory
with_look a m = record m { looks = look m.own m.looks a }

abbrev pub with_writes : List (ℕ × ℕ) → Memory → Memory
with_writes writes m = record m { own = write_all m.own writes }
