use Rattle.std.proofs.Common.{IfOk, Result, Ok, Err, refl}
use Rattle.dependencies.proofs.DecideLemmas.{are_dependencies}
use Rattle.dependencies.proofs.dependencies.run_noting_looks.Goals as goal

both_ok : {X Y : Type 0} (P Q R : X → Type 0) (r : Result X Y) → ((x : X) → P x → Q x → R x) → IfOk r P → IfOk r Q → IfOk r R
both_ok P Q R (Ok x) f p q = f x p q
both_ok P Q R (Err e) f p q = tt

pub returns-clause-looks : goal.returns-clause-looks
returns-clause-looks c =
    let e = c.finish.ensures in
    let run = c.in_ok-run.run' in
    rw c.in_ok-run.ensures at (both_ok _ _ _ c.finish.result (λ w cold noted. are_dependencies run.session w.looks w.state.state w.steps w.cause cold noted)
    e.cold (e.looks (rw c.in_ok-run.ensures refl)))
