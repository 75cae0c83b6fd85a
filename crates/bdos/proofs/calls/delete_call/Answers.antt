use Rattle.std.proofs.Common.{rules, refl, []}
use Rattle.std.proofs.lemmas.Result.{err_from_is_err_and}
use Rattle.file_calls.specs.Findings.{deletion}
use Rattle.file_calls.specs.Changes.{Deleted}
use Rattle.bdos.specs.SystemQuestions.{bind_files}
use Rattle.bdos.specs.FileCalls.{return_with, deletion_value}
use Rattle.bdos.proofs.Chains.{heads, deleting, fails_asking}
use Rattle.file_calls.specs.TableView.{table_view}
use Rattle.bdos.proofs.Needs as needs
use Rattle.bdos.proofs.calls.delete_call.Goals as goal

pub returns-clause-makes : goal.returns-clause-makes
returns-clause-makes g c script =
    heads script 33 33 (λ b to. bind_files (deletion b) (λ names. return_with (deletion_value names) c.args.regs.now c.args.desk.now.desk.spot to [] (Deleted names))) refl c.word_of-at.ensures c.drive.ensures c.fetch-dr.ensures.reads (search rules) c.fetch_block-block.ensures.reads c.fetch_word-to.ensures.reads
    (deleting script c.fetch_word-to.result (deletion c.fetch_block-block.result) c.in_ok-delete_files.ensures c.deletion_value-value.ensures c.return_to.ensures refl refl (λ j. refl))

pub returns-in_err-delete_files-clause-makes : goal.returns-in_err-delete_files-clause-makes
returns-in_err-delete_files-clause-makes g c script =
    let e = err_from_is_err_and c.from_residual.result c.from_residual.ensures.1 in
    let h = c.in_err-delete_files.ensures in
    rw e.1 (heads script 33 33 (λ b to. bind_files (deletion b) (λ names. return_with (deletion_value names) c.args.regs.now c.args.desk.now.desk.spot to [] (Deleted names))) refl c.word_of-at.ensures c.drive.ensures c.fetch-dr.ensures.reads (search rules) c.fetch_block-block.ensures.reads c.fetch_word-to.ensures.reads
    (fails_asking script (deletion c.fetch_block-block.result) (λ names. return_with (deletion_value names) c.args.regs.now c.args.desk.now.desk.spot c.fetch_word-to.result [] (Deleted names)) refl refl refl h.err_own h.extends h.bound h.host h.lender (λ j. refl)))

pub returns-in_err-delete_files-clause-needs : goal.returns-in_err-delete_files-clause-needs
returns-in_err-delete_files-clause-needs g c script =
    let v = table_view c.args.table.now in
    let e = err_from_is_err_and c.from_residual.result c.from_residual.ensures.1 in
    let h = c.in_err-delete_files.ensures in
    rw e.1 (needs.heads script (g.B.Bus.memory c.args.bus.now) (g.B.Bus.memory c.fetch-dr.new.bus) (g.B.Bus.memory c.fetch_block-block.new.bus) (g.B.Bus.memory c.fetch_word-to.new.bus) v
    (g.B.Bus.is_ready c.args.bus.now) (g.B.Bus.is_ready c.fetch-dr.new.bus) (g.B.Bus.is_ready c.fetch_block-block.new.bus) (g.B.Bus.is_ready c.fetch_word-to.new.bus) c.args.regs.now c.args.desk.now.desk.spot
    33 33 (λ b to. bind_files (deletion b) (λ names. return_with (deletion_value names) c.args.regs.now c.args.desk.now.desk.spot to [] (Deleted names))) refl c.word_of-at.ensures c.drive.ensures c.fetch-dr.ensures.reads (search rules) c.fetch_block-block.ensures.reads c.fetch_word-to.ensures.reads
    c.fetch-dr.ensures.kept c.fetch_block-block.ensures.kept c.fetch_word-to.ensures.kept
    (needs.deleting script (g.B.Bus.memory c.fetch_word-to.new.bus) (g.B.Bus.is_ready c.fetch_word-to.new.bus) v (deletion c.fetch_block-block.result) c.args.regs.now c.args.desk.now.desk.spot c.fetch_word-to.result h.refused))
