use Rattle.std.proofs.Common.{subst, sym}
use Rattle.loading.specs.Typed.{Gives}
use Rattle.loading.proofs.Escapes.{one_further}
use Rattle.loading.proofs.typed.typed_bytes.Goals as goal

pub loop-left-preserved : goal.loop-left-preserved
loop-left-preserved c =
    subst (λ bytes. Gives c.args.text.now bytes c.in-Some.rest.now) (sym (rw c.in-Ok.is at c.push.ensures.items))
    (one_further c.args.text.now c.loop-left.bytes.items c.loop-left.left.now c.in-Some.byte c.in-Some.rest.now c.loop-left.invariant (sym c.in-Some.ensures))
