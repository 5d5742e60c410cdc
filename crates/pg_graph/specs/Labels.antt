-- The names that a node's labels hold, of which one has room beside the node.
use Rattle.std.specs.Prelude.{ℕ, List, [], ◌∷◌}
use Rattle.pg_graph.specs.declared.labels.LabelStorage.{LabelStorage}
use Rattle.pg_graph.specs.declared.labels.LabelStorage.TheVariants as held

abbrev pub names_of : LabelStorage → List ℕ
names_of held.Nothing = []
names_of (held.One name) = name ∷ []
names_of (held.More names) = names.value.items
