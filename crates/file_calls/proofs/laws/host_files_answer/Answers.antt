use Rattle.file_calls.proofs.Answering.{answers_are}
use Rattle.file_calls.proofs.laws.host_files_answer.Goals as goal

pub returns : goal.returns
returns c = answers_are
