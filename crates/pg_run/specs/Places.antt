-- One place of a path: a node's or a relationship's.
use Rattle.std.specs.Prelude.{ℕ, Bool, true, false, Result}
use Rattle.serde_json.specs.Data.{Data}
use Rattle.pg_meaning.specs.Graph.{Graph, node_at, has_node, relationship_at, has_relationship}
use Rattle.pg_meaning.specs.Queries.{test_present}
use Rattle.pg_meaning.specs.declared.fault.Fault.{Fault}
use Rattle.pg_run.specs.Printed.{shown_node, shown_relationship}

abbrev pub test_place : Graph → (is_node : Bool) → ℕ → Result (Unit {0}) Fault
test_place graph true n = test_present (has_node graph n)
test_place graph false r = test_present (has_relationship graph r)

abbrev pub shown_place : Graph → (is_node : Bool) → ℕ → Data
shown_place graph true n = shown_node graph n (node_at graph n)
shown_place graph false r = shown_relationship graph r (relationship_at graph r)
