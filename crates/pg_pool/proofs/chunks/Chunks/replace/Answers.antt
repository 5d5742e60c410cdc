use Rattle.std.proofs.Common.{◌/◌, ◌%◌, ◌<◌, length, set, slice_get, Some, arith, sym, ap, subst, refl, ◌∙◌}
use Rattle.std.proofs.lemmas.Option.{slice_get_read}
use Rattle.std.proofs.lemmas.List.{length-set}
use Rattle.std.specs.Vec.{with_item}
use Rattle.pg_pool.specs.Chunks.{items_of}
use Rattle.pg_pool.proofs.ChunkLists.{read, item_at, chunk_within, in_chunk, item_set, full_set, spare_set, length_most}
use Rattle.pg_pool.proofs.chunks.Chunks.replace.Goals as goal

pub index_mut-chunk-requires : goal.index_mut-chunk-requires
index_mut-chunk-requires g c =
    let chunks = c.self.inside.chunks.items in
    let within : c.args.at < length (items_of chunks) = subst (λ r. c.args.at < length r.items) (sym c.self.view_is) c.requires in
    omega (arith, chunk_within chunks c.args.at c.self.invariant.full within)

pub index_mut-requires : goal.index_mut-requires
index_mut-requires g c =
    let chunks = c.self.inside.chunks.items in
    let within : c.args.at < length (items_of chunks) = subst (λ r. c.args.at < length r.items) (sym c.self.view_is) c.requires in
    let chunk = c.index_mut-chunk.result.now in
    let found = in_chunk chunks c.args.at chunk c.self.invariant.full within c.index_mut-chunk.ensures.value in
    omega (arith, found.1, chunk.ok)

pub invariant_of-self : goal.invariant_of-self
invariant_of-self g c =
    let chunks = c.self.inside.chunks.items in
    let within : c.args.at < length (items_of chunks) = subst (λ r. c.args.at < length r.items) (sym c.self.view_is) c.requires in
    let chunk = c.index_mut-chunk.result.now in
    let found = in_chunk chunks c.args.at chunk c.self.invariant.full within c.index_mut-chunk.ensures.value in
    record {
      full = full_set chunks (c.args.at / 1024) chunk _ found.0 (length-set chunk.items (c.args.at % 1024) c.replace.new.dest) c.self.invariant.full;
      few = omega (arith, c.self.invariant.few, length-set chunks (c.args.at / 1024) (with_item chunk (c.args.at % 1024) c.replace.new.dest));
    }

pub returns-clause-before : goal.returns-clause-before
returns-clause-before g c =
    let chunks = c.self.inside.chunks.items in
    let within : c.args.at < length (items_of chunks) = subst (λ r. c.args.at < length r.items) (sym c.self.view_is) c.requires in
    let chunk = c.index_mut-chunk.result.now in
    let found = in_chunk chunks c.args.at chunk c.self.invariant.full within c.index_mut-chunk.ensures.value in
    sym (ap (λ r. slice_get r.items c.args.at) c.self.view_is)
    ∙ item_at chunks c.args.at c.self.invariant.full
    ∙ ap (λ o. read o (c.args.at % 1024)) found.0
    ∙ slice_get_read chunk.items (length chunk.items) (c.args.at % 1024) c.index_mut.result.now refl found.1 c.index_mut.ensures.value
    ∙ ap Some (sym c.replace.ensures.value)

pub returns-clause-items : goal.returns-clause-items
returns-clause-items g c =
    let chunks = c.self.inside.chunks.items in
    let within : c.args.at < length (items_of chunks) = subst (λ r. c.args.at < length r.items) (sym c.self.view_is) c.requires in
    let chunk = c.index_mut-chunk.result.now in
    let found = in_chunk chunks c.args.at chunk c.self.invariant.full within c.index_mut-chunk.ensures.value in
    item_set chunks c.args.at chunk _ c.args.item c.self.invariant.full found.0 found.1 (ap (set chunk.items (c.args.at % 1024)) c.replace.ensures.after)
    ∙ ap (λ r. set r.items c.args.at c.args.item) c.self.view_is

pub returns-clause-spare : goal.returns-clause-spare
returns-clause-spare g c =
    let chunks = c.self.inside.chunks.items in
    let within : c.args.at < length (items_of chunks) = subst (λ r. c.args.at < length r.items) (sym c.self.view_is) c.requires in
    let chunk = c.index_mut-chunk.result.now in
    let found = in_chunk chunks c.args.at chunk c.self.invariant.full within c.index_mut-chunk.ensures.value in
    spare_set chunks (c.args.at / 1024) chunk _ found.0 (length-set chunk.items (c.args.at % 1024) c.replace.new.dest) refl ∙ ap (λ r. r.spare) c.self.view_is

pub returns-clause-small : goal.returns-clause-small
returns-clause-small g c =
    let chunks = c.self.inside.chunks.items in
    let within : c.args.at < length (items_of chunks) = subst (λ r. c.args.at < length r.items) (sym c.self.view_is) c.requires in
    let chunk = c.index_mut-chunk.result.now in
    let found = in_chunk chunks c.args.at chunk c.self.invariant.full within c.index_mut-chunk.ensures.value in
    let full = full_set chunks (c.args.at / 1024) chunk (with_item chunk (c.args.at % 1024) c.replace.new.dest) found.0 (length-set chunk.items (c.args.at % 1024) c.replace.new.dest) c.self.invariant.full in
    omega (arith, c.self.invariant.few, length-set chunks (c.args.at / 1024) (with_item chunk (c.args.at % 1024) c.replace.new.dest), length_most (set chunks (c.args.at / 1024) (with_item chunk (c.args.at % 1024) c.replace.new.dest)) full)
