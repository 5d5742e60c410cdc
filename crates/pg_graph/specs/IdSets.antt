-- The ids that a set holds, of which one has room beside it.
use Rattle.std.specs.Prelude.{ℕ, List, [], ◌∷◌}
use Rattle.pg_graph.specs.IdRuns.{flattened, AreRuns}
use Rattle.pg_graph.specs.declared.id_set.IdStorage.{IdStorage}
use Rattle.pg_graph.specs.declared.id_set.IdStorage.TheVariants as held

abbrev pub ids_of : IdStorage → List ℕ
ids_of held.Nothing = []
ids_of (held.One id) = id ∷ []
ids_of (held.More runs) = flattened runs.value.items

abbrev pub IsHeld : IdStorage → Type 0
IsHeld held.Nothing = Unit {0}
IsHeld (held.One id) = Unit {0}
IsHeld (held.More runs) = AreRuns runs.value.items
