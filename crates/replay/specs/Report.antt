-- The session and the run that a report is about. (This project's own.)
use Rattle.std.specs.Prelude.{Bool}
use Rattle.hostfiles.specs.Hosts.{Key}
use Rattle.machine.specs.ChangedFiles.{is_changed_name_in}
use Rattle.machine.specs.Inputs.{Session}
use Rattle.replay.specs.declared.report.Report.{Report}
use Rattle.machine.specs.PlainState.{PlainRun, plain_run}

-- The session that was run.
abbrev pub session_of : Report → Session
session_of report = report.last_run.now.session

-- The run of that session.
abbrev pub run_of : Report → PlainRun
run_of report = plain_run (session_of report)

-- Whether a key has a valid name, and the run left its file different from the host file.
abbrev pub is_left_changed : Report → Key → Bool
is_left_changed report key = is_changed_name_in (session_of report).files (run_of report).state.files key
