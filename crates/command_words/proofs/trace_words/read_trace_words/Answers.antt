use Rattle.std.proofs.Common.{◌∙◌, ap, Err}
use Rattle.std.proofs.lemmas.Result.{err_from_is_err_and}
use Rattle.clap.specs.Words.{app_of}
use Rattle.command_words.specs.TraceLine.{AreTraceWordsOf, trace_faults, trace_line, trace_matches}
use Rattle.command_words.proofs.Matching.{fault_on, faults_at, is_free_trace, is_simple_trace, no_fault, says_at}
use Rattle.command_words.proofs.trace_words.read_trace_words.Goals as goal

pub returns-in_err-matches-clause-fails : goal.returns-in_err-matches-clause-fails
unfolding trace_faults
returns-in_err-matches-clause-fails c =
    let left = err_from_is_err_and c.from_residual-in_err-matches.result c.from_residual-in_err-matches.ensures.1 in
    fault_on _ c.try_get_matches_from_mut.result _ c.in_err-matches.field-0.0 c.in_err-matches.was (left.1 ∙ ap Err left.2)
    (faults_at trace_line (app_of c.in_ok-command.command) _ _ is_free_trace c.in_ok-command.ensures c.try_get_matches_from_mut.ensures.kinds)

pub returns-in-Some-clause-says : goal.returns-in-Some-clause-says
unfolding trace_matches
returns-in-Some-clause-says c =
    says_at AreTraceWordsOf trace_line (app_of c.in_ok-command.command) _ _ c.in-Some.words is_simple_trace c.in_ok-command.ensures
    (λ h. (c.in_ok-matches.ensures.ok.2 h).0) c.in-Some.ensures.says

pub returns-in-Some-clause-fails : goal.returns-in-Some-clause-fails
unfolding trace_faults
returns-in-Some-clause-fails c =
    no_fault _ c.try_get_matches_from_mut.result c.in_ok-matches.matches c.in_ok-matches.was
    (faults_at trace_line (app_of c.in_ok-command.command) _ _ is_free_trace c.in_ok-command.ensures c.try_get_matches_from_mut.ensures.kinds)
