use Rattle.std.proofs.Common.{inl, inr}
use Rattle.faults.proofs.Statuses.{faults_are_told}
use Rattle.faults.specs.declared.tool.Tool.TheVariants.{Cpmdeps}
use Rattle.dependency_command.proofs.command_line.dependency_command.Goals as goal

pub returns-in-Ok-clause-ends : goal.returns-in-Ok-clause-ends
returns-in-Ok-clause-ends g c = record { ends = inl c.in-Ok.ensures.done; done = λ zero. c.in-Ok.ensures.done }

pub returns-in-Err-clause-ends : goal.returns-in-Err-clause-ends
returns-in-Err-clause-ends g c = record {
  ends = inr (record {
    fault = c.in-Err.fault;
    comes = c.in-Err.ensures.fault (g.E.Writer.output c.args.err.now);
    failed = c.in-Err.ensures.unchanged.failed;
    reported = rw c.in-Err.ensures.unreported at c.report_fault.ensures;
  });
  done = λ zero. absurd (faults_are_told Cpmdeps c.in-Err.fault c.report_fault.result _ _ c.report_fault.ensures zero);
}
