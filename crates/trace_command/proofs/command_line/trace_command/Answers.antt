use Rattle.std.proofs.Common.{inl, inr}
use Rattle.faults.proofs.Statuses.{faults_are_told}
use Rattle.faults.specs.declared.tool.Tool.TheVariants.{Cpmtrace}
use Rattle.trace_command.proofs.command_line.trace_command.Goals as goal

pub returns-in-Ok-clause-ends : goal.returns-in-Ok-clause-ends
returns-in-Ok-clause-ends g c =
    let ends = c.in-Ok.ensures.done (g.E.Writer.output c.args.err.now) in
    record { ends = inl ends; done = λ zero. ends }

pub returns-in-Err-clause-ends : goal.returns-in-Err-clause-ends
returns-in-Err-clause-ends g c = record {
  ends = inr (record {
    fault = c.in-Err.fault;
    comes = c.in-Err.ensures.fault (g.E.Writer.output c.args.err.now);
    failed = c.in-Err.ensures.unchanged.failed;
    reported = c.report_fault.ensures;
  });
  done = λ zero. absurd (faults_are_told Cpmtrace c.in-Err.fault c.report_fault.result _ _ c.report_fault.ensures zero);
}
