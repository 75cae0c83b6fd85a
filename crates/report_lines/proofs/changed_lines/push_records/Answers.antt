use Rattle.std.proofs.Common.{◌≡◌, Some, slice_get, [], take, unwrap_or, ◌∙◌, arith, ap, sym}
use Rattle.std.specs.List.{concat}
use Rattle.hex.specs.Hex.{encode_lower}
use Rattle.hostfiles.specs.FileView.{view_contents}
use Rattle.hostfiles.proofs.ContentsLemmas.{record_here, no_record}
use Rattle.streams.proofs.Pushes.{next_pushed, none_pushed}
use Rattle.report_lines.proofs.ReportPieces.{no_bytes, encode-append, one_record_more}
use Rattle.report_lines.proofs.changed_lines.push_records.Goals as goal

pub loop-number-init : goal.loop-number-init
loop-number-init g c = none_pushed _ _ no_bytes

pub unreachable-requires : goal.unreachable-requires
unreachable-requires g c =
    no_record (view_contents c.args.file.now) c.loop-number.number (let n = c.requires in let h = c.loop-number-test.true in omega arith) (c.in_default.ensures ∙ c.contents_record.ensures)

pub loop-number-preserved : goal.loop-number-preserved
loop-number-preserved g c =
    let t = view_contents c.args.file.now in
    let number = c.loop-number.number in
    let first = concat (take number (unwrap_or t [])) in
    let record' = c.in-Some.record in
    let here : slice_get (unwrap_or t []) number ≡ Some record' = record_here t number record' (c.in-Some.ensures ∙ c.contents_record.ensures) in
    next_pushed _ _ _ (encode_lower first) (encode_lower record') _ c.loop-number.invariant (rw c.as_slice.ensures at c.push_hex.ensures)
    (sym (encode-append first record') ∙ ap encode_lower (one_record_more (unwrap_or t []) number record' here))
