use Rattle.std.proofs.Common.{◌≡◌, IfOk, codes, string_bytes, subst}
use Rattle.requests.proofs.Pieces.{five_regrouped}
use Rattle.requests.proofs.request.clash_reason.Goals as goal

pub returns-in-Both : goal.returns-in-Both
returns-in-Both c =
    rw c.in-Both.is (subst (λ bytes. IfOk c.format.result (λ s. string_bytes s ≡ bytes))
    (five_regrouped (codes "the argument '") c.in-Both.first.now (codes "' cannot be used with '") c.in-Both.second.now (codes "'")) c.format.ensures.ok)

pub returns-in-SameFolder : goal.returns-in-SameFolder
returns-in-SameFolder c =
    rw c.in-SameFolder.is (subst (λ bytes. IfOk c.format-in-SameFolder.result (λ s. string_bytes s ≡ bytes))
    (five_regrouped (codes "the argument '") c.in-SameFolder.first.now (codes "' cannot be used with '") c.in-SameFolder.second.now
    (codes "': both are the same folder")) c.format-in-SameFolder.ensures.ok)
