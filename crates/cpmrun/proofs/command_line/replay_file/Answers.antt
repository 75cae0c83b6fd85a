use Rattle.std.proofs.Common.{arith, refl, inr, ap, ◌∷◌, ◌∙◌, Err}
use Rattle.std.proofs.lemmas.Result.{err_from_is_err_and}
use Rattle.edit_lines.specs.declared.ending.ReplayFault.TheVariants as replay_fault
use Rattle.cpmrun.proofs.Writing.{breaks_file, unopened, writes_file}
use Rattle.cpmrun.proofs.command_line.replay_file.Goals as goal

pub returns-in_err-edits-clause-fault : goal.returns-in_err-edits-clause-fault
returns-in_err-edits-clause-fault g c =
    let left = err_from_is_err_and c.from_residual.result c.from_residual.ensures.1 in
    rw (left.1, left.2) (unopened _ _ _ _ _ c.in_err-edits.ensures.fault)

pub returns-in-Ok-clause-done : goal.returns-in-Ok-clause-done
returns-in-Ok-clause-done g c =
    writes_file (g.S.FileSystem.files c.args.system.now).bytes c.args.path.now (g.S.Input.Reader.input c.in_ok-edits.edits).left _ _ _ _ c.in_ok-edits.ensures.opens c.in-Ok.ensures.ok

pub returns-in-Err-Malformed-clause-fault : goal.returns-in-Err-Malformed-clause-fault
returns-in-Err-Malformed-clause-fault g c =
    breaks_file (g.S.FileSystem.files c.args.system.now).bytes c.args.path.now (g.S.Input.Reader.input c.in_ok-edits.edits).left (replay_fault.Malformed c.in-Err-Malformed.line) c.args.session
    (g.O.Writer.output c.args.out.now) (g.O.Writer.output c.replay_session.new.writer) c.in_ok-edits.ensures.opens
    (rw c.in-Err-Malformed.field-0-is at c.in-Err-Malformed.ensures.fault)

pub returns-in-Err-LineTooLong-clause-fault : goal.returns-in-Err-LineTooLong-clause-fault
returns-in-Err-LineTooLong-clause-fault g c =
    breaks_file (g.S.FileSystem.files c.args.system.now).bytes c.args.path.now (g.S.Input.Reader.input c.in_ok-edits.edits).left (replay_fault.LineTooLong c.in-Err-LineTooLong.line) c.args.session
    (g.O.Writer.output c.args.out.now) (g.O.Writer.output c.replay_session.new.writer) c.in_ok-edits.ensures.opens
    (rw c.in-Err-LineTooLong.field-0-is at c.in-Err-LineTooLong.ensures.fault)

pub returns-in-Err-Read-clause-fault : goal.returns-in-Err-Read-clause-fault
returns-in-Err-Read-clause-fault g c = (
  refl,
  inr (breaks_file (g.S.FileSystem.files c.args.system.now).bytes c.args.path.now (g.S.Input.Reader.input c.in_ok-edits.edits).left (replay_fault.Read) c.args.session
      (g.O.Writer.output c.args.out.now) (g.O.Writer.output c.replay_session.new.writer) c.in_ok-edits.ensures.opens
      (rw c.in-Err-Read.field-0-is at c.in-Err-Read.ensures.fault)),
)

pub note_failed_read-requires : goal.note_failed_read-requires
note_failed_read-requires g c = omega (arith, c.in_ok-edits.ensures.unfailed, c.in-Err-Read.ensures.read (ap Err c.in-Err-Read.field-0-is))

pub returns-in-Err-Read-clause-unchanged : goal.returns-in-Err-Read-clause-unchanged
returns-in-Err-Read-clause-unchanged g c = record {
  bytes = c.note_failed_read.ensures.bytes ∙ c.in_ok-edits.ensures.unchanged.bytes;
  names = c.note_failed_read.ensures.names ∙ c.in_ok-edits.ensures.unchanged.names;
  special = c.note_failed_read.ensures.special ∙ c.in_ok-edits.ensures.unchanged.special;
  failed = c.note_failed_read.ensures.failed ∙ ap (λ paths. c.args.path.now ∷ paths) c.in_ok-edits.ensures.unchanged.failed;
}

pub returns-in-Err-Write-clause-fault : goal.returns-in-Err-Write-clause-fault
returns-in-Err-Write-clause-fault g c =
    breaks_file (g.S.FileSystem.files c.args.system.now).bytes c.args.path.now (g.S.Input.Reader.input c.in_ok-edits.edits).left (replay_fault.Write) c.args.session
    (g.O.Writer.output c.args.out.now) (g.O.Writer.output c.replay_session.new.writer) c.in_ok-edits.ensures.opens
    (rw c.in-Err-Write.field-0-is at c.in-Err-Write.ensures.fault)

pub returns-clause-fault : goal.returns-clause-fault
returns-clause-fault g c = inr (breaks_file (g.S.FileSystem.files c.args.system.now).bytes c.args.path.now (g.S.Input.Reader.input c.in_ok-edits.edits).left (replay_fault.OutOfMemory) c.args.session
    (g.O.Writer.output c.args.out.now) (g.O.Writer.output c.replay_session.new.writer) c.in_ok-edits.ensures.opens
    (rw c.in-Err-OutOfMemory.field-0-is at c.in-Err-OutOfMemory.ensures.fault))
