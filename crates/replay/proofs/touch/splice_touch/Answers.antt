use Rattle.std.proofs.Common.{◌≡◌, ◌+◌, sym, ◌∙◌, true, false}
use Rattle.replay.proofs.SpliceLemmas.{same_place, changed_place, rest_later, rest_unchanged, splice_touched}
use Rattle.replay.proofs.touch.splice_touch.Goals as goal

pub loop-place-preserved-then-is_same_byte : goal.loop-place-preserved-then-is_same_byte
loop-place-preserved-then-is_same_byte c =
    let same = rw c.script-script.ensures.value at c.is_same_byte.ensures in
    same_place c.args.session.now c.args.at c.args.removed c.args.bytes.now c.args.looks.now c.loop-place.place c.loop-place.touch c.loop-place.invariant (same.0 c.if-is_same_byte.true)

pub loop-place-preserved : goal.loop-place-preserved
loop-place-preserved c =
    let same = rw c.script-script.ensures.value at c.is_same_byte.ensures in
    rw (c.lesser_step-touch.ensures, c.get.ensures)
    (changed_place c.args.session.now c.args.at c.args.removed c.args.bytes.now c.args.looks.now c.loop-place.place c.loop-place.touch c.loop-place.invariant c.requires.noted
    (λ answers. let yes = same.1 answers in let no : false ≡ true = sym c.if-is_same_byte.false ∙ yes in cc))

pub returns-then-is_earliest_from : goal.returns-then-is_earliest_from
returns-then-is_earliest_from c =
    let s = c.args.session.now in
    let at = c.args.at in
    let i = c.loop-place.place in
    let same = rw c.script-script.ensures.value at c.is_same_byte.ensures in
    rw (c.lesser_step-touch.ensures, c.get.ensures)
    (splice_touched s at c.args.removed c.args.bytes.now c.requires.inside c.args.looks.now (i + 1) _
    (rest_later s at c.args.removed c.args.bytes.now c.args.looks.now i c.loop-place.touch (c.is_earliest_from.ensures c.if-is_earliest_from.true))
    (changed_place s at c.args.removed c.args.bytes.now c.args.looks.now i c.loop-place.touch c.loop-place.invariant c.requires.noted
    (λ answers. let yes = same.1 answers in let no : false ≡ true = sym c.if-is_same_byte.false ∙ yes in cc)))

pub returns : goal.returns
returns c =
    let s = c.args.session.now in
    let n = c.loop-place.place in
    splice_touched s c.args.at c.args.removed c.args.bytes.now c.requires.inside c.args.looks.now n c.loop-place.touch
    (rest_unchanged s c.args.at c.args.removed c.args.bytes.now c.requires.inside c.args.looks.now n c.loop-place.touch (rw c.changes_end-place-end.ensures at c.loop-place-test.false))
    c.loop-place.invariant
