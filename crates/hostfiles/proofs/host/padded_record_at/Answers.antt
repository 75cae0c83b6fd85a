use Rattle.std.proofs.Common.{ap, sym, ◌∙◌, ◌≡◌, ◌-◌, ◌*◌, length, drop, arith}
use Rattle.std.proofs.lemmas.List.{take_all, length-drop}
use Rattle.hostfiles.specs.Hosts.{padded_record}
use Rattle.hostfiles.proofs.host.padded_record_at.Goals as goal

pub returns : goal.returns
returns c =
    let rest = drop (128 * c.args.i) c.args.bytes.now in
    let count : length rest ≡ length c.args.bytes.now - 128 * c.args.i = length-drop (128 * c.args.i) c.args.bytes.now in
    c.padded_record-2.ensures
    ∙ ap padded_record (take_all (length c.args.bytes.now - 128 * c.args.i) rest (omega arith) ∙ sym (take_all 128 rest (omega arith)))
