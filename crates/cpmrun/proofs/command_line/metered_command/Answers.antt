use Rattle.std.proofs.Common.{inl, inr}
use Rattle.faults.proofs.Statuses.{faults_are_told}
use Rattle.faults.specs.declared.tool.Tool.TheVariants.{Cpmrun}
use Rattle.cpmrun.proofs.command_line.metered_command.Goals as goal

pub returns-in-Ok : goal.returns-in-Ok
returns-in-Ok g c = record { ends = inl c.in-Ok.ensures.done; done = λ zero. c.in-Ok.ensures.done }

pub returns-in-Err : goal.returns-in-Err
returns-in-Err g c = record {
  ends = inr (record {
    fault = c.in-Err.fault;
    comes = c.in-Err.ensures.fault (g.E.Writer.output c.args.err.now) (g.E.Writer.output c.report_fault.new.err);
    failed = c.in-Err.ensures.failed;
    reported = rw c.in-Err.ensures.unreported at c.report_fault.ensures;
  });
  done = λ zero. absurd (faults_are_told Cpmrun c.in-Err.fault c.report_fault.result _ _ c.report_fault.ensures zero);
}
