use Rattle.std.proofs.Common.{refl, ap, ◌∙◌}
use Rattle.std.specs.Option.{option_map}
use Rattle.machine.specs.StateView.{PartialState}
use Rattle.machine.specs.Step.{next}
use Rattle.machine.specs.Machine.{session_answers, session_tree, outcome_with, start}
use Rattle.machine.specs.PlainLaid.{laid_state}
use Rattle.machine.proofs.DependenceLemmas as lemmas
use Rattle.machine.proofs.PlainSteps.{plain_machine_is_laid}
use Rattle.replay.proofs.runner.prefix_dependence.Goals as goal

pub returns : goal.returns
returns c s t limits other_limits n st at untouched =
    let (same, asked) = lemmas.prefix_dependence session_tree (λ (st : PartialState). st.own) (λ (st : PartialState). next st.core) outcome_with start (session_answers s) (session_answers t) n untouched in
    record {
      other = st;
      there = same ∙ at;
      regs = refl;
      desk = refl;
      own = refl;
      plain = plain_machine_is_laid.states s limits n ∙ ap (option_map (laid_state s)) at;
      other_plain = plain_machine_is_laid.states t other_limits n ∙ ap (option_map (laid_state t)) (same ∙ at);
      looks = asked;
    }
