-- What an item changes, found in a row.
use Rattle.std.specs.Prelude.{◌≡◌, true}
use Rattle.pg_meaning.specs.Graph.{Graph, has_node, has_relationship}
use Rattle.pg_meaning.specs.Updates.{Target, nothing, at_node, at_relationship}
use Rattle.pg_write.specs.declared.targets.Target.{Target as Code}
use Rattle.pg_write.specs.declared.targets.Target.TheVariants.{Nothing, Node, Rel}

abbrev pub target_view : Code → Target
target_view Nothing = nothing
target_view (Node id) = at_node id.0
target_view (Rel id) = at_relationship id.0

abbrev pub IsThere : Graph → Target → Type 0
IsThere graph nothing = Unit {0}
IsThere graph (at_node n) = has_node graph n ≡ true
IsThere graph (at_relationship r) = has_relationship graph r ≡ true
