use Rattle.std.proofs.Common.{◌/◌, ◌%◌, option_copied, slice_get, sym, ap, ◌∙◌}
use Rattle.pg_pool.proofs.ChunkLists.{read, item_at, copied}
use Rattle.pg_pool.proofs.chunks.Chunks.get.Goals as goal

pub returns-in_err-chunk : goal.returns-in_err-chunk
returns-in_err-chunk g c =
    let chunks = c.self.inside.chunks.items in
    let found = copied c.deref.result.now chunks (c.args.at / 1024) c.get.result c.deref.ensures.value c.get.ensures.lookup in
    ap option_copied c.from_residual.ensures
    ∙ ap (λ o. read o (c.args.at % 1024)) (sym (ap option_copied c.in_err-chunk.was) ∙ found)
    ∙ sym (item_at chunks c.args.at c.self.invariant.full) ∙ ap (λ r. slice_get r.items c.args.at) c.self.view_is

pub returns : goal.returns
returns g c =
    let chunks = c.self.inside.chunks.items in
    let found = copied c.deref.result.now chunks (c.args.at / 1024) c.get.result c.deref.ensures.value c.get.ensures.lookup in
    copied c.deref-2.result.now c.in_ok-chunk.chunk.now.items (c.args.at % 1024) c.get-2.result c.deref-2.ensures.value c.get-2.ensures.lookup
    ∙ ap (λ o. read o (c.args.at % 1024)) (sym (ap option_copied c.in_ok-chunk.was) ∙ found)
    ∙ sym (item_at chunks c.args.at c.self.invariant.full) ∙ ap (λ r. slice_get r.items c.args.at) c.self.view_is
