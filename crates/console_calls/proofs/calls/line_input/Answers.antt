use Rattle.std.proofs.Common.{rules, refl}
use Rattle.std.proofs.lemmas.Result.{err_from_is_err_and}
use Rattle.console_calls.proofs.Carried.{fails}
use Rattle.i8080.proofs.WriteLookLemmas.{extends_by_two}
use Rattle.i8080.proofs.BoundLemmas.{bound_here}
use Rattle.console_calls.proofs.Lines.{line_boots, line_short, line_goes, line_fails}
use Rattle.console_calls.proofs.calls.line_input.Goals as goal

pub returns-in-Booted : goal.returns-in-Booted
returns-in-Booted g c n within = line_boots _ _ c.word_of-at.ensures c.fetch-capacity.ensures.reads c.cursor.ensures.cursor (c.in_ok-line.ensures.types _ n within) _ (search rules) c.in-Booted.is refl refl (search rules)

pub returns-in-Short : goal.returns-in-Short
returns-in-Short g c n within = line_short _ _ c.word_of-at.ensures c.fetch-capacity.ensures.reads c.cursor.ensures.cursor (c.in_ok-line.ensures.types _ n within) _ (search rules) c.in-Short.is refl refl (search rules)

pub returns : goal.returns
returns g c n within =
    line_goes _ _ c.word_of-at.ensures c.fetch-capacity.ensures.reads c.cursor.ensures.cursor (c.in_ok-line.ensures.types _ n within) _ (search rules) c.in-Ended.is c.fetch_word-to.ensures.reads c.in_ok-ready_line.ensures.memory c.return_to.ensures
    (search rules) (search rules) (search rules) (search rules) (search rules)

pub returns-in_err-ready_line : goal.returns-in_err-ready_line
returns-in_err-ready_line g c n within =
    let e = err_from_is_err_and c.from_residual-in_err-ready_line.result c.from_residual-in_err-ready_line.ensures.1 in
    rw e.1 (line_fails _ _ c.word_of-at.ensures c.fetch-capacity.ensures.reads c.cursor.ensures.cursor (c.in_ok-line.ensures.types _ n within) c.in-Ended.is
    (fails (search (rules, extends_by_two)) (search (rules, bound_here)) (search rules) (search rules) (search rules) (search rules) (search rules) (search rules)))

pub returns-in_err-send_all : goal.returns-in_err-send_all
returns-in_err-send_all g c n within =
    let e = err_from_is_err_and c.from_residual-in_err-send_all.result c.from_residual-in_err-send_all.ensures.1 in
    rw e.1 (line_fails _ _ c.word_of-at.ensures c.fetch-capacity.ensures.reads c.cursor.ensures.cursor (c.in_ok-line.ensures.types _ n within) c.in-Ended.is
    (fails (search (rules, extends_by_two)) (search (rules, bound_here)) (search rules) (search rules) (search rules) (search rules) (search rules) (search rules)))
