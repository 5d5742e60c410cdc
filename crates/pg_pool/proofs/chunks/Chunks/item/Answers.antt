use Rattle.std.proofs.Common.{◌%◌, ◌<◌, length, slice_get, arith, sym, ap, subst, refl, ◌∙◌}
use Rattle.std.proofs.lemmas.Option.{slice_get_read}
use Rattle.pg_pool.specs.Chunks.{items_of}
use Rattle.pg_pool.proofs.ChunkLists.{read, item_at, chunk_within, in_chunk}
use Rattle.pg_pool.proofs.chunks.Chunks.item.Goals as goal

pub index-chunk-requires : goal.index-chunk-requires
index-chunk-requires g c =
    let chunks = c.self.inside.chunks.items in
    let within : c.args.at < length (items_of chunks) = subst (λ r. c.args.at < length r.items) (sym c.self.view_is) c.requires in
    omega (arith, chunk_within chunks c.args.at c.self.invariant.full within)

pub index-requires : goal.index-requires
index-requires g c =
    let chunks = c.self.inside.chunks.items in
    let within : c.args.at < length (items_of chunks) = subst (λ r. c.args.at < length r.items) (sym c.self.view_is) c.requires in
    let found = in_chunk chunks c.args.at c.index-chunk.result.now c.self.invariant.full within c.index-chunk.ensures in
    omega (arith, found.1, c.index-chunk.result.now.ok)

pub returns : goal.returns
returns g c =
    let chunks = c.self.inside.chunks.items in
    let within : c.args.at < length (items_of chunks) = subst (λ r. c.args.at < length r.items) (sym c.self.view_is) c.requires in
    let chunk = c.index-chunk.result.now in
    let found = in_chunk chunks c.args.at chunk c.self.invariant.full within c.index-chunk.ensures in
    sym (ap (λ r. slice_get r.items c.args.at) c.self.view_is)
    ∙ item_at chunks c.args.at c.self.invariant.full
    ∙ ap (λ o. read o (c.args.at % 1024)) found.0
    ∙ slice_get_read chunk.items (length chunk.items) (c.args.at % 1024) c.index.result.now refl found.1 c.index.ensures
