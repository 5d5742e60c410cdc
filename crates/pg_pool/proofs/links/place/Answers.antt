use Rattle.std.proofs.Common.{rules}
use Rattle.std.proofs.lemmas.List.Sorted.{answers_always}
use Rattle.pg_graph.proofs.SortedLists.{placed}
use Rattle.pg_value_core.specs.declared.ids.RelId.{RelId}
use Rattle.pg_pool.proofs.links.place.Goals as goal

pub returns : goal.returns
returns c =
    let facts = c.binary_search_by_key.ensures in
    placed (λ (r : RelId). r.0) c.args.id c.args.ids.now c.binary_search_by_key.result c.requires facts.bound
    (facts.position (λ (r : RelId). r.0) (answers_always _ _ _ (λ f a r h called. search rules)))
