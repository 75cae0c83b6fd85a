use Rattle.std.proofs.Common.{◌-◌, ◌∙◌, arith, drop, length}
use Rattle.std.proofs.lemmas.List.{length-drop, take_all}
use Rattle.streams.proofs.Texts.{Appends-more}
use Rattle.streams.proofs.text.write_counted.Goals as goal

pub loop-done-preserved : goal.loop-done-preserved
loop-done-preserved g c =
    let i = c.loop-done.invariant in
    let text = c.args.text.now in
    let done = c.loop-done.done in
    record {
      within = omega (arith, c.in-Ok.ensures.count, length-drop done text, c.loop-done-test.true);
      bytes = Appends-more _ _ _ done c.in-Ok.n text _ (take_all (length text - done) (drop done text) (omega (arith, length-drop done text))) i.bytes c.in-Ok.ensures.bytes;
      failures = c.in-Ok.ensures.ok ∙ i.failures;
    }
