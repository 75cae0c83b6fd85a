use Rattle.std.proofs.Common.{ℕ, ap, refl}
use Rattle.std.proofs.lemmas.Result.{err_from_is_err_and}
use Rattle.console_calls.specs.ScriptLooks.{is_within}
use Rattle.console_calls.proofs.Strings.{string_stops, string_goes, string_fails}
use Rattle.console_calls.proofs.calls.string_output.Goals as goal

pub returns-then-not-branch : goal.returns-then-not-branch
returns-then-not-branch g c script =
    string_stops script _ _ c.fetch_word-to.ensures.reads c.word_of.ensures (λ (j : ℕ). ap (λ p. is_within p j) c.in_ok-print_string.ensures.looks) c.in_ok-print_string.ensures.prints c.if-not-branch.true refl

pub returns : goal.returns
returns g c script =
    string_goes script _ _ c.fetch_word-to.ensures.reads c.word_of.ensures (λ (j : ℕ). ap (λ p. is_within p j) c.in_ok-print_string.ensures.looks) c.in_ok-print_string.ensures.prints c.if-not-branch.false c.return_to.ensures

pub returns-in_err-print_string : goal.returns-in_err-print_string
returns-in_err-print_string g c script =
    let e = err_from_is_err_and c.from_residual.result c.from_residual.ensures.1 in
    rw e.1 (string_fails script _ _ c.fetch_word-to.ensures.reads c.word_of.ensures (λ (j : ℕ). ap (λ p. is_within p j) c.in_err-print_string.ensures.looks) c.in_err-print_string.ensures.prints refl)
