-- Ids by value as a finite set of ids for each value.
use Rattle.std.specs.Ordering.{on, eq_by_cmp}
use Rattle.indexmap.specs.IndexMap.{get}
use Rattle.pg_graph.specs.Removed.{Ids}
use Rattle.pg_index.specs.Index.{the_ids}
use Rattle.pg_index.specs.declared.valued_ids.ValuedIds.{ValuedIds}
use Rattle.pg_meaning.specs.Order.{value_order}
use Rattle.pg_value_core.specs.View.{view}
use Rattle.pg_value_core.specs.declared.value.Value.{Value}

-- the ids under a value
abbrev pub ids_under : ValuedIds → Value → Ids
ids_under valued value = the_ids (get (on view (eq_by_cmp value_order)) valued.sets value)
