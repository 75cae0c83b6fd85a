use Rattle.std.proofs.Common.{◌≡◌, ap, length, rules, sym, ◌∙◌}
use Rattle.hex.specs.Hex.{encode_lower}
use Rattle.streams.proofs.Pushes.{all_pushed, part_pushed}
use Rattle.report_lines.proofs.ReportPieces.{encode-append, no_digits}
use Rattle.report_lines.proofs.hex_digits.push_hex.Goals as goal

pub loop-rest-preserved : goal.loop-rest-preserved
loop-rest-preserved g c =
    let chunk = c.split_at.result.0.now in
    let others = c.split_at.result.1.now in
    part_pushed _ _ _ _ _ _ c.push_chunk.ensures (sym (encode-append chunk others) ∙ ap encode_lower (sym c.split_at.ensures.by_index.0)) c.loop-rest.invariant

pub returns : goal.returns
returns g c = let none : length c.loop-rest.rest.now ≡ 0 = search rules in all_pushed _ _ _ (no_digits _ none) c.loop-rest.invariant
