use Rattle.pg_pool.proofs.ChunkLists.{no_chunks}
use Rattle.pg_pool.proofs.chunks.Chunks.clear.Goals as goal

pub invariant_of-self : goal.invariant_of-self
invariant_of-self g c = no_chunks _ c.new.ensures.items
