use Rattle.std.proofs.Common.{◌≡◌, ◌++◌, map, take, drop}
use Rattle.first_looks.specs.FileSteps.{step_below}
use Rattle.first_looks.proofs.file_steps.erase_drives.Given as goal

abbrev pub invariant-loop-step : goal.invariant-loop-step
invariant-loop-step l = l.directories ≡ map (step_below l.from) (take l.step-index l.fn.directories) ++ drop l.step-index l.fn.directories
