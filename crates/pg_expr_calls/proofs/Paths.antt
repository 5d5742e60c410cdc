-- Where a path ends.
use Rattle.std.proofs.Common.{◌≡◌, ℕ, ◌<◌, List, [], ◌∷◌, length, refl, arith}
use Rattle.pg_meaning.specs.Functions.{path_nodes, nodes_behind, path_relationships}
use Rattle.pg_meaning.specs.Value.{no_items}
use Rattle.pg_expr_calls.proofs.Joins.{none_more}

pub nodes_end : (ids : List ℕ) → length ids ≡ 0 → path_nodes ids ≡ no_items
nodes_end [] h = refl
nodes_end (x ∷ ids) h = absurd (omega arith)

pub nodes_behind_end : (ids : List ℕ) → length ids ≡ 0 → nodes_behind ids ≡ no_items
nodes_behind_end [] h = refl
nodes_behind_end (x ∷ ids) h = absurd (omega arith)

pub relationships_end : (ids : List ℕ) → length ids < 2 → path_relationships ids ≡ no_items
relationships_end [] h = refl
relationships_end (x ∷ []) h = refl
relationships_end (x ∷ y ∷ ids) h = absurd (omega arith)

pub ruleset path_ends = (none_more, nodes_end, nodes_behind_end, relationships_end)
