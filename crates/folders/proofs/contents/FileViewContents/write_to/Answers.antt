use Rattle.std.proofs.Common.{◌≡◌, ◌∙◌, ◌+◌, sym, subst, Some, [], take, unwrap_or, rules}
use Rattle.std.specs.List.{concat}
use Rattle.std.specs.Io.KnownBytes.{Appends}
use Rattle.hostfiles.specs.FileView.{view_contents}
use Rattle.folders.proofs.WriteLemmas.{one_more, not_none, all_written, none_written}
use Rattle.folders.proofs.contents.FileViewContents.write_to.Goals as goal
use Rattle.folders.proofs.contents.FileViewContents.write_to.Goals.{in-Some-contents_record+in_ok-write_all, in_default-contents_record}

pub returns-in_default : goal.returns-in_default
returns-in_default g c = none_written (g.W.Write.contents c.args.writer.now) (view_contents c.args.self.now) c.in_default.ensures.contents

pub loop-number-preserved : goal.loop-number-preserved
loop-number-preserved g c =
    let t = view_contents c.args.self.now in
    let number = c.loop-number.number in
    let before = g.W.Write.contents c.loop-number.writer in
    elim c.match-contents_record.branch [
      | in-Some-contents_record+in_ok-write_all w ↦
          let here : Some w.as_slice.result.now ≡ Some w.in-Some-contents_record.record.now = search rules in
          subst (λ x. Appends (g.W.Write.contents c.args.writer.now) (g.W.Write.contents x) (concat (take (number + 1) (unwrap_or t [])))) (sym w.writer-is)
          (one_more _ before (g.W.Write.contents w.write_all.new.self) t number w.as_slice.result.now (here ∙ w.in-Some-contents_record.ensures) c.loop-number.invariant w.in_ok-write_all.ensures.bytes)
      | in_default-contents_record w ↦ absurd (not_none t c.in-Some.count number c.in-Some.ensures.contents c.loop-number-test.true w.in_default-contents_record.ensures)
    ]

pub returns : goal.returns
returns g c =
    all_written (g.W.Write.contents c.args.writer.now) (g.W.Write.contents c.loop-number.writer) (view_contents c.args.self.now) c.in-Some.count c.loop-number.number
    c.in-Some.ensures.contents c.loop-number-test.false c.loop-number.invariant
