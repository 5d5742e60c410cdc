use Rattle.std.proofs.Common.{ℕ, List, ◌∷◌, sym, ap, ◌∙◌}
use Rattle.pg_write.specs.Gathered.{put_path, put_relationship}
use Rattle.pg_write.proofs.pending_deletes.PendingDeletes.put_path.Goals as goal

pub loop-node-preserved : goal.loop-node-preserved
loop-node-preserved g c =
    let graph = c.args.graph.now in
    let node = c.in-Some.node.now in
    let rel = c.in-Some-split_first.rel.now in
    let rest = c.in-Some-split_first.others.now in
    ap (put_path graph rest) (c.in_ok-put_rel.ensures ∙ ap (put_relationship graph rel) c.in_ok-put_node.ensures)
    ∙ sym (ap (λ (ids : List ℕ). put_path graph ids c.loop-node.self) (c.in-Some.ensures.cases.0 ∙ ap (λ (ids : List ℕ). node ∷ ids) c.in-Some-split_first.ensures.cases.0))
    ∙ c.loop-node.invariant
