-- Clauses about a result, by its kind.
use Rattle.std.specs.Prelude.{Result, Ok, Err, IfOk, IsErr, MatchResult}

pub if_err : {T E : Type 0} (r : Result T E) (P : T → Type 0) → IsErr r → IfOk r P
if_err (Ok x) P e = absurd (cc)
if_err (Err e) P h = tt

pub match_err : {T E : Type 0} (r : Result T E) (P : T → Type 0) (Q : Type 0) → IsErr r → Q → MatchResult r P (λ _. Q)
match_err (Ok x) P Q e q = absurd (cc)
match_err (Err e) P Q h q = q
