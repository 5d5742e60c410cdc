use Rattle.std.proofs.Common.{ap, ◌∙◌}
use Rattle.std.specs.FinMap as map
use Rattle.pg_graph.specs.Records.{seen_entries}
use Rattle.pg_graph.proofs.Entries.{entries_of_map}
use Rattle.pg_value_core.specs.View.{view}
use Rattle.pg_graph.proofs.properties.Properties.entries.Goals as goal

pub returns : goal.returns
returns c = ap seen_entries c.as_slice.ensures.value ∙ entries_of_map view c.self.inside.entries.items c.self.invariant ∙ ap map.entries c.self.view_is
