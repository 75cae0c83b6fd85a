use Rattle.filenames.proofs.SaidLemmas.{said_as_printed}
use Rattle.filenames.proofs.SayableLemmas.{names_are_sayable}
use Rattle.filenames.proofs.name.display_texts_parse_back.Goals as goal

pub returns-clause-printed : goal.returns-clause-printed
returns-clause-printed c = said_as_printed

pub returns-clause-valid : goal.returns-clause-valid
returns-clause-valid c = names_are_sayable
