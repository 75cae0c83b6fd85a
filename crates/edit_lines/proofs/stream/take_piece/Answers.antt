use Rattle.std.proofs.Common.{◌≡◌, ◌+◌, ◌++◌, ◌∷◌, [], length, length-append, take, drop, arith, ap, append_assoc, refl, ◌∙◌}
use Rattle.std.proofs.lemmas.Result.{err_from_is_err_and}
use Rattle.edit_lines.specs.Pieces.{first_piece}
use Rattle.edit_lines.specs.Progress.{replay_state}
use Rattle.edit_lines.proofs.Breaking.{breaks_long, ends_there}
use Rattle.edit_lines.proofs.Cutting.{all_after, found_front, found_nowhere, found_pieces, found_split}
use Rattle.edit_lines.proofs.Stepping.{Takes-trans, line_taken, nothing_taken, part_taken}
use Rattle.edit_lines.proofs.stream.take_piece.Goals as goal

pub loop-at-init : goal.loop-at-init
loop-at-init g c = record { taken = []; split = refl; takes = nothing_taken c.args.buffer.now.lines (replay_state c.args.runner.now c.args.meter.now (g.W.Writer.output c.args.writer.now)) c.args.buffer.now.line.items; meter = c.requires; on = omega arith }

pub loop-at-preserved : goal.loop-at-preserved
loop-at-preserved g c =
    let i = c.loop-at.invariant in
    let n = c.push_part.new.self in
    let rest = c.loop-at.rest.now in
    let at = c.in-Some.at in
    let found = c.in-Some.ensures in
    let part = take at rest in
    let grew = ap length c.in_ok-push_part.ensures.ok in
    let b = c.loop-at.buffer in
    let last = c.end_line.new in
    let before = replay_state c.loop-at.runner c.loop-at.meter (g.W.Writer.output c.loop-at.writer) in
    let after = replay_state last.runner last.meter (g.W.Writer.output last.writer) in
    let one = part_taken b.lines before b.line.items part (found_front 10 rest at found.0) n.lines n.line.items
    c.in_ok-push_part.ensures.lines c.in_ok-push_part.ensures.ok in
    let two = line_taken n.lines before after n.line.items (omega (arith, n.short, n.line.ok.0)) c.in_ok-end_line.ensures.does
    last.buffer.lines last.buffer.line.items c.in_ok-end_line.ensures.next.0 c.in_ok-end_line.ensures.next.1 in
    record {
      taken = (i.taken ++ part) ++ 10 ∷ [];
      split =
          ap (λ t. ((i.taken ++ part) ++ 10 ∷ []) ++ t) (all_after (at + 1) rest)
          ∙ append_assoc (i.taken ++ part) (10 ∷ []) (drop (at + 1) rest) ∙ append_assoc i.taken part (10 ∷ drop (at + 1) rest)
          ∙ ap (λ t. i.taken ++ t) (found_split 10 rest at found.0 found.1) ∙ i.split;
      takes = Takes-trans _ _ _ _ _ _ _ _ _ _ _ (Takes-trans _ _ _ _ _ _ _ _ _ _ _ i.takes one) two;
      meter = c.in_ok-end_line.ensures.meter;
      on = omega (
        arith,
        i.on,
        c.in_ok-end_line.ensures.next.0,
        c.in_ok-push_part.ensures.lines,
        grew,
        length-append c.loop-at.buffer.line.items part,
        n.short,
        n.line.ok.0,
        c.loop-at.buffer.line.ok.0,
        length-append (i.taken ++ part) (10 ∷ []),
        length-append i.taken part,
      );
    }

pub returns-in_err-push_part-clause-breaks : goal.returns-in_err-push_part-clause-breaks
returns-in_err-push_part-clause-breaks g c =
    let i = c.loop-at.invariant in
    let b = c.loop-at.buffer in
    let rest = c.loop-at.rest.now in
    let at = c.in-Some.at in
    let found = c.in-Some.ensures in
    let cut = found_pieces 10 rest at found.0 found.1 in
    let first : first_piece 10 rest ≡ take at rest = cc in
    let h = c.in_err-push_part.ensures.err in
    let e = err_from_is_err_and c.from_residual.result c.from_residual.ensures.1 in
    rw (e.1, e.2) (breaks_long rest i.takes i.split (take at rest) first (omega (arith, b.short, b.line.ok.0)) h.1 _ h.0)

pub returns-in_err-end_line-clause-breaks : goal.returns-in_err-end_line-clause-breaks
returns-in_err-end_line-clause-breaks g c =
    let i = c.loop-at.invariant in
    let n = c.push_part.new.self in
    let rest = c.loop-at.rest.now in
    let at = c.in-Some.at in
    let found = c.in-Some.ensures in
    let part = take at rest in
    let others = drop (at + 1) rest in
    let b = c.loop-at.buffer in
    let before = replay_state c.loop-at.runner c.loop-at.meter (g.W.Writer.output c.loop-at.writer) in
    let one = part_taken b.lines before b.line.items part (found_front 10 rest at found.0) n.lines n.line.items
    c.in_ok-push_part.ensures.lines c.in_ok-push_part.ensures.ok in
    let e = err_from_is_err_and c.from_residual-in_err-end_line.result c.from_residual-in_err-end_line.ensures.1 in
    rw (e.1, e.2) (record {
      m = n.lines;
      last = before;
      held = n.line.items;
      taken = i.taken ++ part;
      rest = 10 ∷ others;
      split = append_assoc i.taken part (10 ∷ others) ∙ ap (λ t. i.taken ++ t) (found_split 10 rest at found.0 found.1) ∙ i.split;
      takes = Takes-trans _ _ _ _ _ _ _ _ _ _ _ i.takes one;
      short = omega (arith, n.short, n.line.ok.0);
      fails = ends_there n.lines n.line.items others before (replay_state c.end_line.new.runner c.end_line.new.meter (g.W.Writer.output c.end_line.new.writer))
          c.in_err-end_line.field-0.0 c.in_err-end_line.ensures.does;
    })

pub returns-in_err-push_part-2-clause-breaks : goal.returns-in_err-push_part-2-clause-breaks
returns-in_err-push_part-2-clause-breaks g c =
    let i = c.loop-at.invariant in
    let b = c.loop-at.buffer in
    let rest = c.loop-at.rest.now in
    let cut = found_nowhere 10 rest (rw c.in_default.is at c.memchr.ensures) in
    let first : first_piece 10 rest ≡ rest = cc in
    let h = c.in_err-push_part-2.ensures.err in
    let e = err_from_is_err_and c.from_residual-in_err-push_part-2.result c.from_residual-in_err-push_part-2.ensures.1 in
    rw (e.1, e.2) (breaks_long rest i.takes i.split rest first (omega (arith, b.short, b.line.ok.0)) h.1 _ h.0)

pub returns-clause-takes : goal.returns-clause-takes
returns-clause-takes g c =
    let i = c.loop-at.invariant in
    let rest = c.loop-at.rest.now in
    let b = c.loop-at.buffer in
    let n = c.push_part-2.new.self in
    let one = part_taken b.lines (replay_state c.loop-at.runner c.loop-at.meter (g.W.Writer.output c.loop-at.writer)) b.line.items rest
    (found_nowhere 10 rest (rw c.in_default.is at c.memchr.ensures)) n.lines n.line.items c.in_ok-push_part-2.ensures.lines c.in_ok-push_part-2.ensures.ok in
    rw (← i.split) (Takes-trans _ _ _ _ _ _ _ _ _ _ _ i.takes one)
