use Rattle.filenames.proofs.NameLemmas.{key_made}
use Rattle.filenames.proofs.name.key_of.Goals as goal

pub returns : goal.returns
returns c = rw (← c.number.ensures.number) (key_made c.number.result c.args.name.now c.args.kind.now c.copy_uppercase.new.field c.copy_uppercase-2.new.field c.requires.name c.requires.kind c.copy_uppercase.ensures c.copy_uppercase-2.ensures)
