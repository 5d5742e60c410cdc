use Rattle.std.proofs.Common.{ap, ◌∙◌}
use Rattle.pg_graph.proofs.Entries.{map_of, map_of_none}
use Rattle.pg_value_core.specs.View.{view}
use Rattle.pg_graph.proofs.properties.Properties.new.Goals as goal

pub returns : goal.returns
returns c = ap (map_of view) c.new.ensures.items ∙ map_of_none view
