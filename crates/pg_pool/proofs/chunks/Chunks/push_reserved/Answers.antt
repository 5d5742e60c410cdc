use Rattle.std.proofs.Common.{◌-◌, ◌<◌, ◌∷◌, [], ◌++◌, length, arith, sym, ap, subst, refl, ◌∙◌}
use Rattle.std.proofs.lemmas.Option.{slice_get_read}
use Rattle.std.proofs.lemmas.List.{length-set}
use Rattle.pg_pool.specs.Chunks.{spare_of}
use Rattle.pg_pool.proofs.ChunkLists.{has_chunk, spare_last, full_last, pushed, length_most}
use Rattle.pg_pool.proofs.chunks.Chunks.push_reserved.Goals as goal

pub overflow_sub-last : goal.overflow_sub-last
overflow_sub-last g c =
    let chunks = c.self.inside.chunks.items in
    let room : 0 < spare_of chunks = subst (λ r. 0 < r.spare) (sym c.self.view_is) c.requires in
    omega (arith, has_chunk chunks room)

pub index_mut-requires : goal.index_mut-requires
index_mut-requires g c =
    let chunks = c.self.inside.chunks.items in
    let room : 0 < spare_of chunks = subst (λ r. 0 < r.spare) (sym c.self.view_is) c.requires in
    omega (arith, has_chunk chunks room)

pub push_reserved-requires : goal.push_reserved-requires
push_reserved-requires g c =
    let chunks = c.self.inside.chunks.items in
    let room : 0 < spare_of chunks = subst (λ r. 0 < r.spare) (sym c.self.view_is) c.requires in
    let many = has_chunk chunks room in
    let there = slice_get_read chunks (length chunks) (c.len-last.result - 1) c.index_mut.result.now refl (omega arith) c.index_mut.ensures.value in
    omega (arith, spare_last chunks (c.len-last.result - 1) c.index_mut.result.now (omega arith) there)

pub invariant_of-self : goal.invariant_of-self
invariant_of-self g c =
    let chunks = c.self.inside.chunks.items in
    let room : 0 < spare_of chunks = subst (λ r. 0 < r.spare) (sym c.self.view_is) c.requires in
    let many = has_chunk chunks room in
    let there = slice_get_read chunks (length chunks) (c.len-last.result - 1) c.index_mut.result.now refl (omega arith) c.index_mut.ensures.value in
    let spare = spare_last chunks (c.len-last.result - 1) c.index_mut.result.now (omega arith) there in
    record {
      full = full_last chunks (c.len-last.result - 1) c.push_reserved.new.self (omega arith) (omega (arith, spare, room)) c.self.invariant.full;
      few = omega (arith, c.self.invariant.few, length-set chunks (c.len-last.result - 1) c.push_reserved.new.self);
    }

pub returns-clause-items : goal.returns-clause-items
returns-clause-items g c =
    let chunks = c.self.inside.chunks.items in
    let room : 0 < spare_of chunks = subst (λ r. 0 < r.spare) (sym c.self.view_is) c.requires in
    let many = has_chunk chunks room in
    let there = slice_get_read chunks (length chunks) (c.len-last.result - 1) c.index_mut.result.now refl (omega arith) c.index_mut.ensures.value in
    pushed chunks (c.len-last.result - 1) c.index_mut.result.now c.push_reserved.new.self c.args.item (omega arith) there c.push_reserved.ensures.items
    ∙ ap (λ r. r.items ++ c.args.item ∷ []) c.self.view_is

pub returns-clause-small : goal.returns-clause-small
returns-clause-small g c =
    let chunks = c.self.inside.chunks.items in
    let room : 0 < spare_of chunks = subst (λ r. 0 < r.spare) (sym c.self.view_is) c.requires in
    let many = has_chunk chunks room in
    let there = slice_get_read chunks (length chunks) (c.len-last.result - 1) c.index_mut.result.now refl (omega arith) c.index_mut.ensures.value in
    let spare = spare_last chunks (c.len-last.result - 1) c.index_mut.result.now (omega arith) there in
    let full = full_last chunks (c.len-last.result - 1) c.push_reserved.new.self (omega arith) (omega (arith, spare, room)) c.self.invariant.full in
    omega (arith, c.self.invariant.few, length-set chunks (c.len-last.result - 1) c.push_reserved.new.self, length_most _ full)
