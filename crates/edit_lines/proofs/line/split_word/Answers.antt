use Rattle.std.proofs.Common.{◌≡◌, ◌+◌, drop, ap, sym, ◌∙◌}
use Rattle.edit_lines.specs.Pieces.{other_pieces, pieces}
use Rattle.edit_lines.proofs.Cutting.{all_after, found_nowhere, found_pieces}
use Rattle.edit_lines.proofs.line.split_word.Goals as goal

pub returns-in-Some-clause-word : goal.returns-in-Some-clause-word
returns-in-Some-clause-word c =
    let found = c.in-Some.ensures in
    let cut = found_pieces 32 c.args.line.now c.in-Some.at found.0 found.1 in cc

pub returns-in-Some-clause-rest : goal.returns-in-Some-clause-rest
returns-in-Some-clause-rest c =
    let line = c.args.line.now in
    let after = c.in-Some.at + 1 in
    let found = c.in-Some.ensures in
    let cut = found_pieces 32 line c.in-Some.at found.0 found.1 in
    let others : other_pieces 32 line ≡ pieces 32 (drop after line) = cc in
    others ∙ ap (pieces 32) (sym (all_after after line))

pub returns-in-None-clause-word : goal.returns-in-None-clause-word
returns-in-None-clause-word c = let cut = found_nowhere 32 c.args.line.now c.in-None.ensures in cc

pub returns-in-None-clause-rest : goal.returns-in-None-clause-rest
returns-in-None-clause-rest c = let cut = found_nowhere 32 c.args.line.now c.in-None.ensures in cc
