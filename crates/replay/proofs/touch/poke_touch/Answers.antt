use Rattle.std.proofs.Common.{◌≡◌, ◌+◌, arith, length}
use Rattle.first_looks.specs.declared.question.Question.TheVariants.{Cell}
use Rattle.machine.specs.Machine.{session_answers}
use Rattle.replay.specs.Edits.{with_poke}
use Rattle.machine.proofs.FirstLemmas.{noted_below}
use Rattle.replay.proofs.LeastLemmas.{least_of_none, least_more}
use Rattle.replay.proofs.PokeLemmas.{IsPoked, none_poked, one_more_poked, poke_touched, changes}
use Rattle.replay.proofs.touch.poke_touch.Goals as goal

pub loop-i-init : goal.loop-i-init
loop-i-init c = rw c.seen-touch.ensures (least_of_none (IsPoked c.args.at 0) _ _ c.args.looks.now (none_poked c.args.at))

pub loop-i-preserved : goal.loop-i-preserved
loop-i-preserved c =
    let s = c.args.session.now in
    let bytes = c.args.bytes.now in
    let i = c.loop-i.i in
    let old : c.program-program.result.now ≡ s.program = c.program-program.ensures.value in
    let one = least_more (IsPoked c.args.at i) (IsPoked c.args.at (i + 1)) (session_answers s) (session_answers (with_poke s c.args.at bytes)) c.args.looks.now (Cell (256 + (c.args.at + i)))
    (one_more_poked c.args.at i) c.loop-i.touch c.loop-i.invariant (noted_below _ _ c.requires.noted (Cell (256 + (c.args.at + i)))) _
    (changes s c.args.at bytes c.requires.inside i c.loop-i-test.true).0 (changes s c.args.at bytes c.requires.inside i c.loop-i-test.true).1 in
    rw (c.lesser_if_changed-touch.ensures, old) one

pub returns : goal.returns
returns c =
    let all : c.loop-i.i ≡ length c.args.bytes.now = omega arith in
    poke_touched c.args.session.now c.args.at c.args.bytes.now c.requires.inside c.args.looks.now c.loop-i.touch (rw all at c.loop-i.invariant)
