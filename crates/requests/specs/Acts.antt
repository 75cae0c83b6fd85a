-- What a program does, one act after another, and what an error leaves of it. (This project's profile.)
use Rattle.std.specs.Prelude.{◌≡◌, ◌⊎◌, ℕ, List}
use Rattle.faults.specs.Faults.{BreaksText}
use Rattle.faults.specs.declared.fault.Fault.{Fault}
use Rattle.requests.specs.World.{World}
use Rattle.requests.specs.Requests.{WritesNothing}
use Rattle.streams.specs.Streams.{WritesOrFails, WritesWhole}

-- An act: that it was done, and what is left if this error broke it off.
pub record Act : Type 1 where
  pub Does : World → World → Type 0
  pub Leaves : World → World → Fault → Type 0

-- An act and then another. An error broke off the first one; or the first was done, and it broke off the second.
abbrev pub and_then : Act → Act → Act
and_then a b = record {
  Does = λ before after. (between : World) × a.Does before between × b.Does between after;
  Leaves = λ before after fault. a.Leaves before after fault ⊎ ((between : World) × a.Does before between × b.Leaves between after fault);
}

-- An act before which an error may be found, and nothing done then.
abbrev pub checked : (Fault → Type 0) → Act → Act
checked Finds a = record {
  Does = a.Does;
  Leaves = λ before after fault. (Finds fault × WritesNothing before after) ⊎ a.Leaves before after fault;
}

-- One of the acts for values of which this holds.
abbrev pub with_some : {A : Type 0} → (A → Type 0) → (A → Act) → Act
with_some {A} Is act = record {
  Does = λ before after. (x : A) × Is x × (act x).Does before after;
  Leaves = λ before after fault. (x : A) × Is x × (act x).Leaves before after fault;
}

-- An act after which the program exits with the status that is wanted then.
abbrev pub exits : ℕ → ℕ → Act → Act
exits status wanted a = record {
  Does = λ before after. (status ≡ wanted) × a.Does before after;
  Leaves = a.Leaves;
}

-- Standard output gets a text.
abbrev pub print : List ℕ → Act
print text = record {
  Does = λ before after. WritesWhole before.out after.out text × (after.files.bytes ≡ before.files.bytes) × (after.err ≡ before.err);
  Leaves = λ before after fault. BreaksText text before.out after.out fault × (after.files.bytes ≡ before.files.bytes);
}

-- Standard error gets a text, or a prefix of it if writing it fails, which is no error.
abbrev pub report : List ℕ → Act
report text = record {
  Does = λ before after. WritesOrFails before.err after.err text × (after.out ≡ before.out) × (after.files.bytes ≡ before.files.bytes);
  Leaves = λ before after fault. ⊥;
}
