-- An index as a finite map from keys to finite sets of ids.
use Rattle.std.specs.Prelude.{Option}
use Rattle.std.specs.BTreeMap.{get}
use Rattle.std.specs.FinMap as map
use Rattle.std.specs.Option.{option_map_or}
use Rattle.std.specs.declared.cmp.Ordering.{Ordering}
use Rattle.pg_graph.specs.Removed.{Ids}
use Rattle.pg_index.specs.declared.index.Index.{Index}

-- where there is no set, there are no ids
abbrev pub the_ids : Option Ids → Ids
the_ids found = option_map_or (λ ids. ids) found map.empty

-- the ids under a key; o, e and p are what the bound of its keys gives the type of an index, and say nothing here
abbrev pub ids_at : {K : Type 0} {o : _} {e : _} {p : _} → (K → K → Ordering) → Index K o e p → K → Ids
ids_at cmp index key = the_ids (get cmp index.sets key)
