use Rattle.std.proofs.Common.{◌≡◌, ◌+◌, ◌++◌, [], length, take, arith, inl, refl, rules, subst, ◌∙◌, Err}
use Rattle.std.proofs.lemmas.List.{length-take}
use Rattle.std.proofs.lemmas.Result.{err_from_is_err_and}
use Rattle.std.proofs.KnownBytes.{Consumes-kept, Consumes-nil, Consumes-trans}
use Rattle.edit_lines.specs.Effects.{none as no_effect}
use Rattle.edit_lines.specs.Faults.{replay_view}
use Rattle.edit_lines.specs.Progress.{ExecutesLine, replay_state}
use Rattle.edit_lines.proofs.Breaking.{all_ends, breaks_off, last_fails, no_more_bytes, no_read, nothing_done, reading_failed}
use Rattle.edit_lines.proofs.Stepping.{Takes-trans, part_taken}
use Rattle.edit_lines.proofs.stream.replay.Goals as goal

pub loop-count-init : goal.loop-count-init
loop-count-init g c = record {
  bytes = [];
  consumed = Consumes-nil _;
  takes = part_taken 0 (replay_state c.args.runner.now c.args.meter.now (g.W.Writer.output c.args.writer.now)) [] [] refl _ _ c.in_ok-buffer.ensures.none c.in_ok-buffer.ensures.empty;
  failures = refl;
  meter = omega (arith, c.requires);
}

pub loop-count-preserved : goal.loop-count-preserved
loop-count-preserved g c =
    let i = c.loop-count.invariant in
    record {
      bytes = i.bytes ++ take c.in-Ok.count c.read.new.piece;
      consumed = Consumes-trans _ _ _ i.bytes _ i.consumed c.in-Ok.ensures.bytes.0;
      takes = Takes-trans _ _ _ _ _ _ _ _ _ _ _ i.takes c.in_ok-take_piece.ensures.takes;
      failures = c.in-Ok.ensures.ok ∙ i.failures;
      meter = c.in_ok-take_piece.ensures.meter;
    }

-- No memory for the buffer.
pub returns-in_err-buffer-clause-ends : goal.returns-in_err-buffer-clause-ends
returns-in_err-buffer-clause-ends g c =
    let e = err_from_is_err_and c.from_residual.result c.from_residual.ensures.1 in
    let left = (g.R.Reader.input c.args.reader.now).left in
    let none = nothing_done left (replay_view c.args.runner.now.session (g.W.Writer.output c.args.writer.now)) in
    rw (e.1, e.2) ([], [], _, Consumes-nil _, none.0, none.1, inl no_effect)

-- The reader failed.
pub returns-in_default-clause-ends : goal.returns-in_default-clause-ends
returns-in_default-clause-ends g c =
    let i = c.loop-count.invariant in
    let t = i.takes in
    let b = c.loop-count.buffer in
    reading_failed _ _ t.done t.executed (g.R.Reader.input c.args.reader.now).left (g.R.Reader.input c.read.new.self).left i.bytes b.line.items (t.cut [] [] refl)
    (omega (arith, b.short, b.line.ok.0)) (Consumes-kept _ _ _ i.bytes i.consumed c.in_default.ensures.bytes)

pub returns-in_err-take_piece-clause-ends : goal.returns-in_err-take_piece-clause-ends
returns-in_err-take_piece-clause-ends g c =
    let i = c.loop-count.invariant in
    let n = c.in-Ok.count in
    let piece = c.read.new.piece in
    let e = err_from_is_err_and c.from_residual-in_err-take_piece.result c.from_residual-in_err-take_piece.ensures.1 in
    rw (e.1, e.2) (breaks_off _ _ _ i.bytes (take n piece) _ _ _ i.takes (Consumes-trans _ _ _ i.bytes _ i.consumed c.in-Ok.ensures.bytes.0)
    (omega (arith, length-take n piece)) _ _ c.in_err-take_piece.ensures.breaks)

pub returns-in_err-take_piece-clause-read : goal.returns-in_err-take_piece-clause-read
returns-in_err-take_piece-clause-read g c = λ is.
    let e = err_from_is_err_and c.from_residual-in_err-take_piece.result c.from_residual-in_err-take_piece.ensures.1 in
    absurd (no_read _ _ _ _ _ _ c.in_err-take_piece.ensures.breaks (cc))

-- The end of the input.
pub returns-in_err-finish-clause-ends : goal.returns-in_err-finish-clause-ends
returns-in_err-finish-clause-ends g c =
    let i = c.loop-count.invariant in
    let t = i.takes in
    let b = c.loop-count.buffer in
    let read = c.in-Ok.ensures.bytes in
    let new = replay_state c.finish.new.runner c.finish.new.meter (g.W.Writer.output c.finish.new.writer) in
    let last = replay_state c.loop-count.runner c.loop-count.meter (g.W.Writer.output c.loop-count.writer) in
    let f = c.in_err-finish.field-0.0 in
    let h = c.in_err-finish.ensures.err in
    let count : b.lines ≡ length t.done = omega (arith, t.counted) in
    let e = err_from_is_err_and c.from_residual-in_err-finish.result c.from_residual-in_err-finish.ensures.1 in
    rw (e.1, e.2) (last_fails _ last t.done t.executed (g.R.Reader.input c.args.reader.now).left (g.R.Reader.input c.read.new.self).left i.bytes b.line.items
    (t.cut [] [] refl) (omega (arith, b.short, b.line.ok.0)) (read.1 c.if-count-eq0.true (search rules))
    (no_more_bytes _ _ _ i.bytes _ _ c.if-count-eq0.true i.consumed read.0) new h.0 f
    (subst (λ k. ExecutesLine {U = Unit {0}} (k + 1) b.line.items last new (Err f)) count h.1))

pub returns-then-count-eq0-clause-ends : goal.returns-then-count-eq0-clause-ends
returns-then-count-eq0-clause-ends g c =
    let i = c.loop-count.invariant in
    let t = i.takes in
    let b = c.loop-count.buffer in
    let read = c.in-Ok.ensures.bytes in
    let new = replay_state c.finish.new.runner c.finish.new.meter (g.W.Writer.output c.finish.new.writer) in
    let last = replay_state c.loop-count.runner c.loop-count.meter (g.W.Writer.output c.loop-count.writer) in
    all_ends _ last t.done t.executed (g.R.Reader.input c.args.reader.now).left (g.R.Reader.input c.read.new.self).left i.bytes b.line.items
    (t.cut [] [] refl) (omega (arith, b.short, b.line.ok.0)) (read.1 c.if-count-eq0.true (search rules))
    (no_more_bytes _ _ _ i.bytes _ _ c.if-count-eq0.true i.consumed read.0) new b.lines (omega (arith, t.counted)) c.in_ok-finish.ensures.ok.1
    _ c.in_ok-finish.ensures.ok.0
