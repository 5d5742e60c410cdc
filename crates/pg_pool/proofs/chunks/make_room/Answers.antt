use Rattle.std.proofs.Common.{◌≡◌, ◌-◌, ◌<◌, length, vec_len, arith, sym, ap, subst, refl}
use Rattle.std.proofs.lemmas.Option.{slice_get_read}
use Rattle.std.proofs.lemmas.List.{length-set}
use Rattle.std.proofs.lemmas.Result.{on_ok_weaker}
use Rattle.pg_pool.specs.Chunks.{items_of, AreChunks, AreAllFull}
use Rattle.pg_pool.proofs.ChunkLists.{full_set, items_kept, spare_grown, are_all_full, no_chunk_full, are_added, items_stay, has_spare, either_way, same_read}
use Rattle.pg_pool.proofs.chunks.make_room.Goals as goal
use Rattle.pg_pool.proofs.chunks.make_room.Goals.{else-count-gt0-via-then-count-gt0+else-len-lt-ITEMS, else-count-gt0-via-else-count-gt0}

pub returns-then-len-lt-ITEMS-clause-chunks : goal.returns-then-len-lt-ITEMS-clause-chunks
returns-then-len-lt-ITEMS-clause-chunks g c =
    let chunks = c.args.chunks.now.items in
    let there = slice_get_read chunks (length chunks) (c.len-count.result - 1) c.index_mut.result.now refl (omega arith) c.index_mut.ensures.value in
    record {
      full = full_set chunks (c.len-count.result - 1) c.index_mut.result.now _ there (ap length c.reserve.ensures.items) c.requires.full;
      few = omega (arith, c.requires.few, length-set chunks (c.len-count.result - 1) c.reserve.new.self);
    }

pub returns-then-len-lt-ITEMS-clause-items : goal.returns-then-len-lt-ITEMS-clause-items
returns-then-len-lt-ITEMS-clause-items g c =
    let chunks = c.args.chunks.now.items in
    let there = slice_get_read chunks (length chunks) (c.len-count.result - 1) c.index_mut.result.now refl (omega arith) c.index_mut.ensures.value in
    items_kept chunks (c.len-count.result - 1) c.index_mut.result.now _ there c.reserve.ensures.items

pub returns-then-len-lt-ITEMS-clause-room : goal.returns-then-len-lt-ITEMS-clause-room
returns-then-len-lt-ITEMS-clause-room g c =
    let chunks = c.args.chunks.now.items in
    let there = slice_get_read chunks (length chunks) (c.len-count.result - 1) c.index_mut.result.now refl (omega arith) c.index_mut.ensures.value in
    let short : c.len.result < 1024 = c.if-len-lt-ITEMS.true in
    let alike : c.index_mut.result.now ≡ c.index.result.now =
    same_read chunks (c.len-count.result - 1) c.index_mut.result.now c.index.result.now (omega arith) c.index_mut.ensures.value c.index.ensures in
    let long = ap vec_len alike in
    let spare = spare_grown chunks (c.len-count.result - 1) c.reserve.new.self (omega arith) in
    on_ok_weaker c.reserve.result (λ room. omega (arith, room, spare)) c.reserve.ensures.ok

pub add_chunk-requires : goal.add_chunk-requires
add_chunk-requires g c =
    let chunks = c.args.chunks.now.items in
    elim c.else-count-gt0.branch [
      | else-count-gt0-via-then-count-gt0+else-len-lt-ITEMS w ↦
          are_all_full chunks (c.len-count.result - 1) w.index.result.now (omega arith) w.index.ensures (omega (arith, w.if-len-lt-ITEMS.false, w.len.ensures, w.index.result.now.ok)) c.requires.full
      | else-count-gt0-via-else-count-gt0 w ↦ no_chunk_full chunks (omega (arith, w.if-count-gt0.false))
    ]

pub returns-clause-chunks : goal.returns-clause-chunks
returns-clause-chunks g c =
    let chunks = c.args.chunks.now.items in
    let all : AreAllFull chunks = elim c.else-count-gt0.branch [
      | else-count-gt0-via-then-count-gt0+else-len-lt-ITEMS w ↦
          are_all_full chunks (c.len-count.result - 1) w.index.result.now (omega arith) w.index.ensures (omega (arith, w.if-len-lt-ITEMS.false, w.len.ensures, w.index.result.now.ok)) c.requires.full
      | else-count-gt0-via-else-count-gt0 w ↦ no_chunk_full chunks (omega (arith, w.if-count-gt0.false))
    ] in
    either_way c.add_chunk.result c.add_chunk.ensures.ok c.add_chunk.ensures.err (are_added chunks c.add_chunk.new.chunks.items all) (λ e. subst AreChunks (sym e) c.requires)

pub returns-clause-items : goal.returns-clause-items
returns-clause-items g c = either_way c.add_chunk.result c.add_chunk.ensures.ok c.add_chunk.ensures.err (items_stay c.args.chunks.now.items c.add_chunk.new.chunks.items) (ap items_of)

pub returns-clause-room : goal.returns-clause-room
returns-clause-room g c = on_ok_weaker c.add_chunk.result (has_spare c.args.chunks.now.items c.add_chunk.new.chunks.items) c.add_chunk.ensures.ok
