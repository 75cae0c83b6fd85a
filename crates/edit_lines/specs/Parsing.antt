-- What a parser returns, and the words of a line. (This project's own.)
use Rattle.std.specs.Prelude.{◌≡◌, ℕ, ◌<◌, List, [], ◌∷◌, length, Option, Some, None, Result, Ok, Err}
use Rattle.edit_lines.specs.declared.line.Words.{Words}
use Rattle.edit_lines.specs.declared.line.Words.TheVariants.{One, Two, Three, More}

-- The value that has a meaning, or no value if none has it.
abbrev pub Finds : {X : Type 0} → (X → Type 0) → Option X → Type 0
Finds Means (Some x) = Means x
Finds {X} Means None = (x : X) → Means x → ⊥

-- The same, or an allocation failed for a value that needs one.
abbrev pub Parses : {X E : Type 0} → (X → Type 0) → (X → Type 0) → Result (Option X) E → Type 0
Parses Means Allocates (Ok found) = Finds Means found
Parses {X} Means Allocates (Err e) = (x : X) × Means x × Allocates x

-- The words of a line, if there are at most three.
abbrev pub AreSplit : List (List ℕ) → Words → Type 0
AreSplit words (One a) = words ≡ a.now ∷ []
AreSplit words (Two a b) = words ≡ a.now ∷ b.now ∷ []
AreSplit words (Three a b c) = words ≡ a.now ∷ b.now ∷ c.now ∷ []
AreSplit words More = 3 < length words
