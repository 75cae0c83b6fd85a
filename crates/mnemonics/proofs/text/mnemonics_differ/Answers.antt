use Rattle.mnemonics.proofs.Names.{named_mnemonic, same_mnemonic}
use Rattle.mnemonics.proofs.text.mnemonics_differ.Goals as goal

pub returns-clause-found : goal.returns-clause-found
returns-clause-found c = named_mnemonic

pub returns-clause-differ : goal.returns-clause-differ
returns-clause-differ c = same_mnemonic
