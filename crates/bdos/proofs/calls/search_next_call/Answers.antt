use Rattle.std.proofs.Common.{ap}
use Rattle.file_calls.specs.Findings.{search_next}
use Rattle.bdos.specs.SystemQuestions.{bind_files}
use Rattle.bdos.specs.FileCalls.{call_with_finding}
use Rattle.bdos.proofs.Chains.{after_read, after_files, asked_as}
use Rattle.file_calls.specs.TableView.{table_view}
use Rattle.bdos.proofs.Needs as needs
use Rattle.bdos.proofs.calls.search_next_call.Goals as goal

pub returns-clause-makes : goal.returns-clause-makes
returns-clause-makes g c script =
    after_read script _ (λ to. bind_files (search_next c.args.desk.now.desk.spot.search) (λ x. call_with_finding x c.args.regs.now c.args.desk.now.desk.spot to)) _ c.fetch_word-to.ensures.reads (after_files script (search_next c.args.desk.now.desk.spot.search) (λ x. call_with_finding x c.args.regs.now c.args.desk.now.desk.spot c.fetch_word-to.result) c.search_next-finding.result (asked_as c.args.table.now.host.now (ap search_next c.search.ensures) c.search_next-finding.ensures.asks) (c.apply_finding.ensures.makes script))

pub returns-clause-needs : goal.returns-clause-needs
returns-clause-needs g c script =
    let v = table_view c.args.table.now in
    needs.if_failed c.apply_finding.result c.apply_finding.ensures.needs (λ grows.
    needs.after_read script (g.B.Bus.memory c.args.bus.now) (g.B.Bus.memory c.fetch_word-to.new.bus) v (g.B.Bus.is_ready c.args.bus.now) (g.B.Bus.is_ready c.fetch_word-to.new.bus) _
    (λ to. bind_files (search_next c.args.desk.now.desk.spot.search) (λ x. call_with_finding x c.args.regs.now c.args.desk.now.desk.spot to)) _ c.fetch_word-to.ensures.reads c.fetch_word-to.ensures.kept
    (needs.after_files script (g.B.Bus.memory c.fetch_word-to.new.bus) (g.B.Bus.is_ready c.fetch_word-to.new.bus) v.host v.lender (search_next c.args.desk.now.desk.spot.search)
    (λ x. call_with_finding x c.args.regs.now c.args.desk.now.desk.spot c.fetch_word-to.result) c.search_next-finding.result (asked_as c.args.table.now.host.now (ap search_next c.search.ensures) c.search_next-finding.ensures.asks) grows))
