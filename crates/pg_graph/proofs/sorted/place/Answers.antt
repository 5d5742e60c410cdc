use Rattle.std.proofs.Common.{rules}
use Rattle.std.proofs.lemmas.List.Sorted.{answers_always}
use Rattle.pg_graph.proofs.SortedLists.{placed}
use Rattle.pg_graph.proofs.sorted.place.Goals as goal

pub returns : goal.returns
returns g c =
    let facts = c.binary_search_by_key.ensures in
    placed g.T.Numbered.number c.args.number c.args.items.now c.binary_search_by_key.result c.requires facts.bound
    (facts.position g.T.Numbered.number (answers_always _ _ _ (λ f a r h called. search rules)))
