-- The anchors of a planned clause, and the plan of those behind it.
use Rattle.std.proofs.Common.{ℕ, List, ◌∷◌, []}
use Rattle.pg_meaning.specs.Plans.{Plan, ArePlanned, IsPlanFrom}
use Rattle.pg_meaning.specs.Queries.{first_anchors, other_anchors}
use Rattle.pg_meaning.specs.Scopes.{scope_after}
use Rattle.pg_meaning.specs.Tree.{Clause}

module _ (names : List (List ℕ)) where
  pub first_planned : (c : Clause) (cs : List Clause) (plan : Plan) → IsPlanFrom names (c ∷ cs) plan → ArePlanned names c (first_anchors plan)
  first_planned c cs [] h = absurd h
  first_planned c cs (anchors ∷ plan) h = h.0

  pub others_planned : (c : Clause) (cs : List Clause) (plan : Plan) → IsPlanFrom names (c ∷ cs) plan → IsPlanFrom (scope_after names c) cs (other_anchors plan)
  others_planned c cs [] h = absurd h
  others_planned c cs (anchors ∷ plan) h = h.1
