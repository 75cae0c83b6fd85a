use Rattle.std.proofs.Common.{◌≤◌, inl, refl, rules}
use Rattle.std.proofs.lemmas.Result.{err_from_is_err_and}
use Rattle.edit_lines.specs.declared.limits.TheConstants.{LINES_LIMIT}
use Rattle.edit_lines.proofs.Executing.{executes_line}
use Rattle.edit_lines.specs.declared.line.Command.TheVariants.{Edit, DropOldest}
use Rattle.edit_lines.proofs.execute.execute_line.Goals as goal

pub returns-in_err-parse_line-clause-does : goal.returns-in_err-parse_line-clause-does
returns-in_err-parse_line-clause-does g c =
    let h = c.in_err-parse_line.ensures in
    let few : c.args.number ≤ LINES_LIMIT = search rules in
    let e = err_from_is_err_and c.from_residual.result c.from_residual.ensures.1 in
    rw (e.1, e.2) (h.0, few, h.1, (inl h.2, refl, inl (refl, refl)))

pub returns-in-Some-Edit-clause-does : goal.returns-in-Some-Edit-clause-does
returns-in-Some-Edit-clause-does g c =
    let is = rw (c.in-Some-Edit.is, c.in-Some-Edit.field-0-is) at c.in_ok-parse_line.ensures in
    let few : c.args.number ≤ LINES_LIMIT = search rules in
    executes_line c.args.number c.args.line.now (Edit c.in-Some-Edit.edit) _ _ c.execute_edit.result few is (c.execute_edit.ensures c.args.meter.now)

pub returns-in-Some-DropOldest-clause-does : goal.returns-in-Some-DropOldest-clause-does
returns-in-Some-DropOldest-clause-does g c =
    let is = rw (c.in-Some-DropOldest.is, c.in-Some-DropOldest.field-0-is) at c.in_ok-parse_line.ensures in
    let few : c.args.number ≤ LINES_LIMIT = search rules in
    executes_line c.args.number c.args.line.now (DropOldest c.in-Some-DropOldest.count) _ _ c.drop_oldest.result few is (c.drop_oldest.ensures c.args.meter.now)
