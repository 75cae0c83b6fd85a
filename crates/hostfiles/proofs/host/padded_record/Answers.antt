use Rattle.std.proofs.Common.{ap, ◌∙◌, ◌++◌, length, drop, replicate}
use Rattle.std.proofs.lemmas.List.{drop-replicate}
use Rattle.hostfiles.proofs.host.padded_record.Goals as goal

pub returns : goal.returns
returns c = ap (λ x. x ++ drop (length c.args.piece.now) (replicate 128 26)) c.copy_from_slice.ensures.after ∙ ap (λ x. c.args.piece.now ++ x) (drop-replicate (length c.args.piece.now) 128 26)
