use Rattle.std.proofs.Common.{Result, Ok, Err, MatchResult, IsOk, refl}
use Rattle.filenames.proofs.FieldLemmas.{field_is_text}
use Rattle.filenames.proofs.field.field_text.Goals as goal

-- If no error is possible, the result is `Ok`.
only_ok : {T E : Type 0} (r : Result T E) (P : T → Type 0) (Q : E → Type 0) → MatchResult r P Q → ((e : E) → Q e → ⊥) → IsOk r
only_ok (Ok x) P Q h never = refl
only_ok (Err e) P Q h never = absurd (never e h)

pub unwrap-requires : goal.unwrap-requires
unwrap-requires c = only_ok _ _ _ c.from_utf8.ensures.cases (λ e no. no.0 (field_is_text c.find_byte-end.result c.args.field.now c.requires))
