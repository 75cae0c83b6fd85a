use Rattle.std.proofs.Common.{List, ℕ, take, arith, ap, ◌∙◌}
use Rattle.machine.specs.Session.{written_over}
use Rattle.machine.proofs.SpliceLemmas.{grown_by}
use Rattle.machine.proofs.session.splice.Goals as goal

pub returns-then-removed-bytes-clause-ok : goal.returns-then-removed-bytes-clause-ok
returns-then-removed-bytes-clause-ok c =
    c.overwrite.ensures
    ∙ ap (λ (l : List ℕ). written_over l c.args.at (take c.args.removed c.args.bytes.now)) c.in_ok-insert.ensures.ok
    ∙ grown_by c.args.list.now.items c.args.bytes.now c.args.at c.args.removed (let long = c.args.list.now.ok in omega (arith, c.requires, long)) c.if-removed-bytes.true
