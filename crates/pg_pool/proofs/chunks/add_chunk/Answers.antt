use Rattle.std.proofs.Common.{arith, rules}
use Rattle.pg_pool.proofs.chunks.add_chunk.Goals as goal

pub returns-clause-ok : goal.returns-clause-ok
returns-clause-ok g c = record {
  chunk = c.in_ok-chunk.chunk;
  added = search rules;
  empty = search rules;
  room = omega (arith, c.in_ok-room.ensures, c.in_ok-chunk.ensures.capacity);
  few = omega (arith, c.in_ok-push.ensures.len);
}
