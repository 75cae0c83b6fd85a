use Rattle.std.proofs.Common.{rules, refl}
use Rattle.machine.specs.Step.{script_limit, script_limit-is}
use Rattle.machine.proofs.TrialLemmas.{notes}
use Rattle.machine.proofs.trial.next_cells.Goals as goal

pub returns : goal.returns
returns c =
    notes c.args.run.now c.state-state.result.now.state c.state-state.ensures.session c.state-state.ensures.at c.requires c.in_ok-desk.desk c.call.new.desk c.in_ok-call.field-0
    (record {
      own = search rules;
      beneath = refl;
      looks = search rules;
      regs = search rules;
      spot = search rules;
      script = search rules;
      host = search rules;
      files = search rules;
    })
    (c.in_ok-call.ensures.makes script_limit (rw script_limit-is c.script.ensures.within))
