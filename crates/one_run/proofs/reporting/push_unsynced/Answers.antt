use Rattle.std.proofs.Common.{◌++◌, ◌∷◌, [], ◌∙◌, None, ap, append-nil, get_or, sym, take}
use Rattle.std.proofs.lemmas.Grind.{flat_map-append}
use Rattle.std.proofs.lemmas.List.{take_more}
use Rattle.streams.proofs.Pushes.{next_pushed}
use Rattle.one_run.specs.StopLines.{unsynced_line, unsynced_lines}
use Rattle.one_run.proofs.reporting.push_unsynced.Goals as goal

pub loop-folder-preserved : goal.loop-folder-preserved
loop-folder-preserved g c =
    let all = c.args.unsynced.now in
    let before = take c.loop-folder.folder-index all in
    let next = get_or all c.loop-folder.folder-index None in
    next_pushed _ _ _ _ _ _ c.loop-folder.invariant c.push_if_unsynced.ensures (sym (ap unsynced_lines (take_more all c.loop-folder.folder-index None c.loop-folder-test.true)
    ∙ flat_map-append unsynced_line before (next ∷ []) ∙ ap (λ t. unsynced_lines before ++ t) (append-nil (unsynced_line next))))
