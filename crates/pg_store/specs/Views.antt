-- What a lent node and a lent relationship keep beside their records: their names are numbers of the table.
use Rattle.std.specs.Prelude.{◌<◌, ℕ, List, length}
use Rattle.std.specs.FinMap as map
use Rattle.pg_graph.specs.Refinement.{AreNamed}
use Rattle.pg_graph.specs.declared.records.NodeRecord.{NodeRecord}
use Rattle.pg_graph.specs.declared.records.RelRecord.{RelRecord}

pub record IsNamedNode (names : List (List ℕ)) (n : NodeRecord) : Type 0 where
  pub labels : AreNamed names n.labels
  pub keys : AreNamed names (map.keys n.properties)

pub record IsNamedRel (names : List (List ℕ)) (r : RelRecord) : Type 0 where
  pub kind : r.kind < length names
  pub keys : AreNamed names (map.keys r.properties)
