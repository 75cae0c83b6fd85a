use Rattle.std.proofs.Common.{refl, ◌∙◌}
use Rattle.bdos.proofs.Runs.{block_of}
use Rattle.bdos.proofs.calls.fetch_block.Goals.{in-Sequential, in-Random}
use Rattle.bdos.proofs.calls.fetch_block.Goals as goal

pub returns-clause-reads : goal.returns-clause-reads
returns-clause-reads g c = elim c.match-length.branch [
  | in-Sequential w ↦ rw (w.in-Sequential.is, w.bus-is) (block_of 33 _ _ _ _ refl w.fetch_cells.ensures.reads (c.from_bytes.ensures ∙ w.bytes-is))
  | in-Random w ↦ rw (w.in-Random.is, w.bus-is) (block_of 36 _ _ _ _ refl w.fetch_cells-in-Random.ensures.reads (c.from_bytes.ensures ∙ w.bytes-is))
]
