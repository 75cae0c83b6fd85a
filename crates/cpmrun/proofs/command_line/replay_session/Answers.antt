use Rattle.std.proofs.Common.{[]}
use Rattle.std.proofs.KnownBytes.{Consumes-nil}
use Rattle.std.proofs.lemmas.Result.{err_from_is_err_and}
use Rattle.edit_lines.specs.Faults.{replay_view}
use Rattle.edit_lines.proofs.Breaking.{nothing_done}
use Rattle.cpmrun.proofs.Writing.{breaks_replay, writes_replay}
use Rattle.cpmrun.proofs.command_line.replay_session.Goals as goal

pub returns-in_err-runner-clause-fault : goal.returns-in_err-runner-clause-fault
returns-in_err-runner-clause-fault g c =
    let e = err_from_is_err_and c.from_residual.result c.from_residual.ensures.1 in
    let left = (g.R.Reader.input c.args.reader.now).left in
    let none = nothing_done left (replay_view c.args.session (g.W.Writer.output c.args.writer.now)) in
    rw (e.1, e.2) (record { left = left; last = c.args.session; bytes = []; done = []; next = _; read = Consumes-nil _; lines = none.0; leaves = none.1 })

pub returns-clause-ok : goal.returns-clause-ok
returns-clause-ok g c =
    writes_replay _ c.in_ok-runner.runner c.replay.new.runner _ _ _ _ _ _ c.replay.result c.in_ok-runner.ensures c.requires.meter c.replay.ensures.ends

pub returns-clause-fault : goal.returns-clause-fault
returns-clause-fault g c =
    breaks_replay _ c.in_ok-runner.runner c.replay.new.runner _ _ _ _ _ _ c.replay.result c.in_ok-runner.ensures c.replay.ensures.ends
