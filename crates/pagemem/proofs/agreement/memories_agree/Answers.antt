use Rattle.pagemem.proofs.AgreementLemmas.{same_bytes_read_the_same}
use Rattle.pagemem.proofs.agreement.memories_agree.Goals as goal

pub returns : goal.returns
returns c = same_bytes_read_the_same
