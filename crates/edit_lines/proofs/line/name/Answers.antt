use Rattle.edit_lines.proofs.ValidNames.{said_text}
use Rattle.edit_lines.proofs.line.name.Goals as goal

pub returns-in_default : goal.returns-in_default
returns-in_default c = λ key h. c.in_default.ensures.cases.0 (said_text c.args.word.now key h)
