use Rattle.std.proofs.Common.{ap, ◌∙◌}
use Rattle.std.specs.FinMap as map
use Rattle.pg_graph.proofs.Entries.{map_of, map_without}
use Rattle.pg_value_core.specs.View.{view}
use Rattle.pg_graph.proofs.properties.Properties.remove.Goals as goal

pub returns : goal.returns
returns c =
    ap (map_of view) c.remove_entry.ensures.removed ∙ map_without view c.args.key c.self.inside.entries.items c.self.invariant
    ∙ ap (λ m. map.remove m c.args.key) c.self.view_is
