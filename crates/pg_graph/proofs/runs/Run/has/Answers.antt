use Rattle.std.proofs.Common.{◌∙◌}
use Rattle.pg_graph.proofs.SortedLists.{any_placed}
use Rattle.pg_graph.proofs.runs.Run.has.Goals as goal

pub returns : goal.returns
returns c = c.is_ok.ensures.value ∙ any_placed (λ n. n) c.args.id c.args.self.now c.place.result c.place.ensures
