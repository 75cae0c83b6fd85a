use Rattle.std.proofs.Common.{◌≡◌, nat_lt, refl, rules, true, ap, ◌∙◌}
use Rattle.std.specs.Fmt.{decimal}
use Rattle.std.proofs.lemmas.Bool.{lt-ltb}
use Rattle.machine.specs.declared.session.TheConstants.{STEP_LIMIT}
use Rattle.one_run.specs.Explanations.{larger_limit, advice_text}
use Rattle.one_run.proofs.Parts.{three_parts}
use Rattle.one_run.proofs.explanations.push_advice.Goals as goal

pub returns-then-steps-lt-STEP_LIMIT : goal.returns-then-steps-lt-STEP_LIMIT
unfolding advice_text larger_limit
returns-then-steps-lt-STEP_LIMIT g c =
    let below : nat_lt c.args.steps STEP_LIMIT ≡ true = lt-ltb _ _ c.if-steps-lt-STEP_LIMIT.true in
    let larger : c.min-larger.result ≡ larger_limit c.args.steps = search rules in
    let digits : c.as_bytes.result.now ≡ decimal (larger_limit c.args.steps) = c.as_bytes.ensures.value ∙ c.format.ensures.text ∙ ap decimal larger in
    three_parts _ _ _ _ _ _ _ (advice_text c.args.steps) c.push.ensures.piece c.push-then-steps-lt-STEP_LIMIT.ensures.piece c.push-then-steps-lt-STEP_LIMIT-2.ensures.piece
    (rw (digits, below) refl)
