use Rattle.std.proofs.Common.{◌∙◌, subst}
use Rattle.pg_graph.proofs.SortedLists.{any_placed}
use Rattle.pg_graph.specs.Sorted.{IsPlace}
use Rattle.pg_graph.proofs.places.has.Goals as goal

pub returns : goal.returns
returns c = c.is_ok.ensures.value ∙ any_placed (λ k. k) c.args.key c.args.keys.now c.place.result (subst (λ k. IsPlace (λ k. k) k c.args.keys.now c.place.result) c.number.ensures c.place.ensures)
