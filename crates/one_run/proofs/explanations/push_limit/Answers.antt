use Rattle.std.proofs.Common.{◌≡◌, ◌++◌, ap, append_assoc, sym, ◌∙◌}
use Rattle.std.specs.Prelude.{codes}
use Rattle.std.specs.Fmt.{decimal}
use Rattle.one_run.specs.Explanations.{advice_text, limit_text, word_text}
use Rattle.one_run.proofs.Parts.{four_parts}
use Rattle.one_run.proofs.explanations.push_limit.Goals as goal

pub returns : goal.returns
unfolding limit_text
returns g c =
    let digits : c.as_bytes.result.now ≡ decimal c.args.steps = c.as_bytes.ensures.value ∙ c.format.ensures.text in
    four_parts _ _ _ _ _ _ _ _ _ (limit_text c.args.steps c.args.at) c.push.ensures.piece c.push-2.ensures.piece c.push_word.ensures c.push_advice.ensures
    (rw digits (ap (λ t. t ++ advice_text c.args.steps) (sym (append_assoc (codes "after " ++ decimal c.args.steps) (codes " steps, at ") (word_text c.args.at)))))
