use Rattle.std.proofs.Common.{◌≡◌, ◌∷◌, true, drop, map, Ok}
use Rattle.pg_expr.specs.KnownConjuncts.{given_then}
use Rattle.pg_value_core.specs.View.{view}
use Rattle.pg_expr.proofs.known_conjuncts.known_truths.Given as goal

abbrev pub invariant-loop-at : goal.invariant-loop-at
invariant-loop-at g l =
    given_then (l.first ∷ l.known.others.items) (map view l.row) l.graph (Ok true)
    ≡ given_then (drop l.at (l.first ∷ l.known.others.items)) (map view l.row) l.graph (Ok true)
