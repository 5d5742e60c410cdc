use Rattle.std.proofs.Common.{◌-◌, length, refl, arith, ap}
use Rattle.std.proofs.lemmas.Option.{slice_get_read}
use Rattle.pg_pool.proofs.ChunkLists.{length_all, last_short}
use Rattle.pg_pool.proofs.chunks.Chunks.len.Goals as goal

pub overflow_mul-result : goal.overflow_mul-result
overflow_mul-result g c = omega (arith, c.self.invariant.few)

pub overflow_add-result : goal.overflow_add-result
overflow_add-result g c =
    let chunks = c.self.inside.chunks.items in
    let last = slice_get_read chunks (length chunks) (c.len-count.result - 1) c.index.result.now refl (omega arith) c.index.ensures in
    omega (arith, c.self.invariant.few, last_short chunks _ _ last c.self.invariant.full)

pub returns-clause-length : goal.returns-clause-length
returns-clause-length g c =
    let chunks = c.self.inside.chunks.items in
    let last = slice_get_read chunks (length chunks) (c.len-count.result - 1) c.index.result.now refl (omega arith) c.index.ensures in
    let all = length_all chunks (c.len-count.result - 1) c.index.result.now (omega arith) last c.self.invariant.full in
    let whole = ap (λ r. length r.items) c.self.view_is in
    omega (arith, all, whole)

pub returns-clause-small : goal.returns-clause-small
returns-clause-small g c =
    let chunks = c.self.inside.chunks.items in
    let last = slice_get_read chunks (length chunks) (c.len-count.result - 1) c.index.result.now refl (omega arith) c.index.ensures in
    omega (arith, c.self.invariant.few, last_short chunks _ _ last c.self.invariant.full)
