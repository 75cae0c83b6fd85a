use Rattle.std.proofs.Common.{rules, is_some, sym, ap, ◌∙◌}
use Rattle.std.proofs.lemmas.Result.{on_ok_weaker, on_err_weaker}
use Rattle.first_looks.proofs.StepLemmas.{entered_has, entered_length, entered_record, noted_if_there, same_records}
use Rattle.first_looks.proofs.file_steps.FileSteps.note.Goals as goal

pub returns-then-is_some-clause-ok : goal.returns-then-is_some-clause-ok
returns-then-is_some-clause-ok c = noted_if_there c.args.self.now c.args.ask.now c.args.step (ap is_some (sym c.get.ensures) ∙ sym c.is_some.ensures ∙ c.if-is_some.true)

pub returns-in-Has-clause-ok : goal.returns-in-Has-clause-ok
returns-in-Has-clause-ok c =
    on_ok_weaker c.insert.result (entered_has c.args.self.now c.args.ask.now c.in-Has.key c.args.step (search rules) c.insert.new.self c.in-Has.is) c.insert.ensures.ok

pub returns-in-Length-clause-ok : goal.returns-in-Length-clause-ok
returns-in-Length-clause-ok c =
    on_ok_weaker c.insert-in-Length.result (entered_length c.args.self.now c.args.ask.now c.in-Length.key c.args.step (search rules) c.insert-in-Length.new.self c.in-Length.is) c.insert-in-Length.ensures.ok

pub returns-in-Rec-clause-ok : goal.returns-in-Rec-clause-ok
returns-in-Rec-clause-ok c =
    on_ok_weaker c.note.result (entered_record c.args.self.now c.args.ask.now c.in-Rec.key c.args.step (search rules) c.in-Rec.k c.note.new.self c.in-Rec.is) c.note.ensures.ok

pub returns-in-Rec-clause-err : goal.returns-in-Rec-clause-err
returns-in-Rec-clause-err c = on_err_weaker c.note.result (same_records c.args.self.now c.note.new.self) c.note.ensures.err
