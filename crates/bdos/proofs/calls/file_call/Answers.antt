use Rattle.std.proofs.Common.{rules, refl, sym, ap}
use Rattle.file_calls.specs.Findings.{finding_of}
use Rattle.file_calls.specs.TableView.{table_view}
use Rattle.bdos.specs.SystemQuestions.{bind_files}
use Rattle.bdos.specs.FileCalls.{call_with_finding}
use Rattle.bdos.proofs.Chains.{heads, after_files, fails_asking, answered_as}
use Rattle.bdos.proofs.Needs as needs
use Rattle.bdos.proofs.calls.file_call.Goals as goal

pub returns-in-Ok-clause-makes : goal.returns-in-Ok-clause-makes
returns-in-Ok-clause-makes g c script =
    heads script _ _ (λ b to. bind_files (finding_of c.args.function b) (λ x. call_with_finding x c.args.regs.now c.args.desk.now.desk.spot to)) (sym c.block_length.ensures) c.word_of-at.ensures c.drive.ensures c.fetch-dr.ensures.reads (search rules) c.fetch_block-block.ensures.reads c.fetch_word-to.ensures.reads
    (after_files script _ (λ x. call_with_finding x c.args.regs.now c.args.desk.now.desk.spot c.fetch_word-to.result) _ (answered_as (finding_of c.args.function c.fetch_block-block.result) c.args.table.now.host.now c.in-Ok.is c.inquire.ensures.asks) (c.apply_finding.ensures.makes script))

pub returns-in-Err-clause-makes : goal.returns-in-Err-clause-makes
returns-in-Err-clause-makes g c script =
    let h = c.inquire.ensures.asks in
    let bound = answered_as (finding_of c.args.function c.fetch_block-block.result) c.args.table.now.host.now c.in-Err.is h in
    heads script _ _ (λ b to. bind_files (finding_of c.args.function b) (λ x. call_with_finding x c.args.regs.now c.args.desk.now.desk.spot to)) (sym c.block_length.ensures) c.word_of-at.ensures c.drive.ensures c.fetch-dr.ensures.reads (search rules) c.fetch_block-block.ensures.reads c.fetch_word-to.ensures.reads
    (fails_asking script (finding_of c.args.function c.fetch_block-block.result) (λ x. call_with_finding x c.args.regs.now c.args.desk.now.desk.spot c.fetch_word-to.result) refl refl refl (ap (λ j. j.entries) h.stays) h.extends bound.bound refl refl (λ j. refl))

pub returns-in-Ok-clause-needs : goal.returns-in-Ok-clause-needs
returns-in-Ok-clause-needs g c script =
    let v = table_view c.args.table.now in
    needs.if_failed c.apply_finding.result c.apply_finding.ensures.needs (λ grows. needs.heads script (g.B.Bus.memory c.args.bus.now) (g.B.Bus.memory c.fetch-dr.new.bus) (g.B.Bus.memory c.fetch_block-block.new.bus) (g.B.Bus.memory c.fetch_word-to.new.bus) v
    (g.B.Bus.is_ready c.args.bus.now) (g.B.Bus.is_ready c.fetch-dr.new.bus) (g.B.Bus.is_ready c.fetch_block-block.new.bus) (g.B.Bus.is_ready c.fetch_word-to.new.bus) c.args.regs.now c.args.desk.now.desk.spot _ _ (λ b to. bind_files (finding_of c.args.function b) (λ x. call_with_finding x c.args.regs.now c.args.desk.now.desk.spot to)) (sym c.block_length.ensures) c.word_of-at.ensures c.drive.ensures c.fetch-dr.ensures.reads (search rules) c.fetch_block-block.ensures.reads c.fetch_word-to.ensures.reads
    c.fetch-dr.ensures.kept c.fetch_block-block.ensures.kept c.fetch_word-to.ensures.kept
    (needs.after_files script (g.B.Bus.memory c.fetch_word-to.new.bus) (g.B.Bus.is_ready c.fetch_word-to.new.bus) v.host v.lender (finding_of c.args.function c.fetch_block-block.result) (λ x. call_with_finding x c.args.regs.now c.args.desk.now.desk.spot c.fetch_word-to.result) _ (answered_as (finding_of c.args.function c.fetch_block-block.result) c.args.table.now.host.now c.in-Ok.is c.inquire.ensures.asks) grows))

pub returns-in-Err-clause-needs : goal.returns-in-Err-clause-needs
returns-in-Err-clause-needs g c script =
    let v = table_view c.args.table.now in
    let h = answered_as (finding_of c.args.function c.fetch_block-block.result) c.args.table.now.host.now c.in-Err.is c.inquire.ensures.asks in
    needs.heads script (g.B.Bus.memory c.args.bus.now) (g.B.Bus.memory c.fetch-dr.new.bus) (g.B.Bus.memory c.fetch_block-block.new.bus) (g.B.Bus.memory c.fetch_word-to.new.bus) v
    (g.B.Bus.is_ready c.args.bus.now) (g.B.Bus.is_ready c.fetch-dr.new.bus) (g.B.Bus.is_ready c.fetch_block-block.new.bus) (g.B.Bus.is_ready c.fetch_word-to.new.bus) c.args.regs.now c.args.desk.now.desk.spot _ _ (λ b to. bind_files (finding_of c.args.function b) (λ x. call_with_finding x c.args.regs.now c.args.desk.now.desk.spot to)) (sym c.block_length.ensures) c.word_of-at.ensures c.drive.ensures c.fetch-dr.ensures.reads (search rules) c.fetch_block-block.ensures.reads c.fetch_word-to.ensures.reads
    c.fetch-dr.ensures.kept c.fetch_block-block.ensures.kept c.fetch_word-to.ensures.kept
    (needs.asks_anew script (g.B.Bus.memory c.fetch_word-to.new.bus) (g.B.Bus.is_ready c.fetch_word-to.new.bus) v (finding_of c.args.function c.fetch_block-block.result) (λ x. call_with_finding x c.args.regs.now c.args.desk.now.desk.spot c.fetch_word-to.result) h.refused)
