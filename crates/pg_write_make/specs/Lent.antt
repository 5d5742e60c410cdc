-- What the code's parts of a creation stand for.
use Rattle.std.specs.Prelude.{ℕ, List, ◌∷◌, map, Some}
use Rattle.std.specs.Borrow.{Bor}
use Rattle.pg_meaning.specs.Patterns.{Trail}
use Rattle.pg_meaning.specs.Tree as tree
use Rattle.pg_syntax_tree.specs.View.{path_view}
use Rattle.pg_syntax_tree.specs.declared.patterns.PathPattern.{PathPattern}
use Rattle.pg_value_core.specs.View.{view}
use Rattle.pg_value_core.specs.declared.value.Value.{Value}
use Rattle.pg_write_make.specs.Bindings.{Binding}
use Rattle.pg_write_make.specs.Makings.{node_ids, relationship_ids, outcomes_view}
use Rattle.pg_write_make.specs.Outcomes.{Outcomes, outcome_view, trail_of}
use Rattle.pg_write_make.specs.declared.kept.Kept.{Kept}
use Rattle.pg_write_make.specs.declared.paths.Trail.{Trail as Code}

abbrev pub bindings_view : List (Bor (List ℕ) × Value) → List Binding
bindings_view bs = map (λ b. (Some b.0.now, view b.1)) bs

abbrev pub paths_view : List PathPattern → List tree.PathPattern
paths_view ps = map path_view ps

abbrev pub trail_view : Code → Trail
trail_view t = trail_of (node_ids t.nodes.items) (relationship_ids t.relationships.items)

abbrev pub kept_view : Kept → Outcomes
kept_view k = (outcome_view k.first ∷ outcomes_view k.nodes.items, outcomes_view k.relationships.items)
