use Rattle.disks.proofs.Names.{after_slash, whole_path}
use Rattle.disks.proofs.reports.folder_and_name.Goals as goal

pub returns-in-Some-empty-default : goal.returns-in-Some-empty-default
returns-in-Some-empty-default c = after_slash _ _ _ c.in-Some-empty-default.ensures.cases

pub returns-in-Some : goal.returns-in-Some
returns-in-Some c = after_slash _ _ _ c.in-Some.ensures.cases

pub returns-in-None-2 : goal.returns-in-None-2
returns-in-None-2 c = whole_path _ c.in-None-2.ensures.cases
