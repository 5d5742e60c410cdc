use Rattle.std.proofs.Common.{ap, ◌∙◌}
use Rattle.std.specs.FinMap as map
use Rattle.pg_graph.specs.IdRuns.{set_of}
use Rattle.pg_graph.specs.IdSets.{ids_of}
use Rattle.pg_graph.proofs.IdSetLemmas.{remove_is, held_rises}
use Rattle.pg_graph.proofs.id_set.IdSet.remove_id.Goals as goal

pub returns : goal.returns
returns c =
    ap set_of c.remove_id.ensures.removed ∙ remove_is c.args.id (ids_of c.self.inside.held) (held_rises c.self.inside.held c.self.invariant)
    ∙ ap (λ m. map.remove m c.args.id) c.self.view_is
