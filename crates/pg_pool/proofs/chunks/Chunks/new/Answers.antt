use Rattle.pg_pool.proofs.ChunkLists.{no_chunks}
use Rattle.pg_pool.proofs.chunks.Chunks.new.Goals as goal

pub invariant_of-result : goal.invariant_of-result
invariant_of-result g c = no_chunks _ c.new.ensures.items
