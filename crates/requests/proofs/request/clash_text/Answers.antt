use Rattle.std.proofs.Common.{◌≡◌, IfOk, codes, string_bytes, subst}
use Rattle.requests.proofs.Pieces.{five_regrouped}
use Rattle.requests.proofs.request.clash_text.Goals as goal

pub returns : goal.returns
returns c =
    rw (← c.in_ok-reason.ensures, ← c.name-name.ensures) (subst (λ bytes. IfOk c.format.result (λ s. string_bytes s ≡ bytes))
    (five_regrouped (codes "error: ") (string_bytes c.in_ok-reason.reason) (codes "\n\nUsage: ") c.name-name.result.now
    (codes " [OPTIONS] <PROGRAM> [TAIL]\n\nFor more information, try '--help'.\n")) c.format.ensures.ok)
