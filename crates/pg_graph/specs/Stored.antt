-- Whether a node has the label of a number.
use Rattle.std.specs.Prelude.{◌==◌, ℕ, Bool, true, Option, None, Some}
use Rattle.std.specs.List.{list_any}
use Rattle.pg_graph.specs.declared.records.NodeRecord.{NodeRecord}

-- whether a node has the label of a number; each has where none is asked for
abbrev pub has_number : Option ℕ → NodeRecord → Bool
has_number None node = true
has_number (Some label) node = list_any (λ l. l == label) node.labels
