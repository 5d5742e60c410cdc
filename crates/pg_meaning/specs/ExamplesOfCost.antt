-- Worked examples of cost: the walks charge it, and it is this number.
use Rattle.std.specs.Prelude.{◌≡◌, ℕ, true, false, List, [], ◌∷◌, Ok, Err, Option, Some, None, codes, pos}
use Rattle.pg_meaning.specs.Cost.{cost}
use Rattle.pg_meaning.specs.ExampleTrees.{named, var, number, dot, node_place, between, detail, hop, path_of}
use Rattle.pg_meaning.specs.Graph.{Graph}
use Rattle.pg_meaning.specs.Plans.{Anchor, leading_of}
use Rattle.pg_meaning.specs.Tree.{Expression, chain, operand, no_operands, NodePattern, RelationshipPattern, PathPattern, no_properties, given, pair, no_pairs}
use Rattle.pg_meaning.specs.Value.{integer, no_entries, entry}
use Rattle.pg_meaning.specs.Walks.{walks, paths_wanted}
use Rattle.pg_meaning.specs.declared.operators.Operator.TheVariants.{Equal}

-- (0:L {k: 1})-[0:K]->(1)-[1:K]->(2)-[2:K]->(0), and a self-loop 3 at 0
abbrev pub ring : Graph
ring = record {
  nodes =
      (0, record { labels = codes "L" ∷ []; properties = entry (codes "k") (integer (pos 1)) no_entries })
      ∷ (1, record { labels = []; properties = no_entries }) ∷ (2, record { labels = []; properties = no_entries }) ∷ [];
  relationships =
      (0, record { type = codes "K"; source = 0; target = 1; properties = no_entries })
      ∷ (1, record { type = codes "K"; source = 1; target = 2; properties = no_entries })
      ∷ (2, record { type = codes "K"; source = 2; target = 0; properties = no_entries })
      ∷ (3, record { type = codes "L"; source = 0; target = 0; properties = no_entries }) ∷ [];
  next_node = 3;
  next_relationship = 4;
}

abbrev pub at : ℕ → Anchor
at place = record { place = place; index = None }

abbrev pub over_index : ℕ → Anchor
over_index place = record { place = place; index = Some (codes "L", codes "k") }

abbrev pub Costs : Option Expression → List PathPattern → List Anchor → ℕ → Type 0
Costs where_ paths anchors n = elim (paths_wanted [] no_entries ring paths) [
  | Ok wanted ↦ (cost ring no_entries (leading_of [] paths where_) wanted anchors [] ≡ n) × ((walks ring no_entries (leading_of [] paths where_) wanted anchors []).1 ≡ n)
  | Err f ↦ ⊥
]

abbrev any : NodePattern
any = node_place None [] no_properties

abbrev called_a : NodePattern
called_a = node_place (Some (named "a")) [] no_properties

abbrev labelled : NodePattern
labelled = node_place (Some (named "a")) (codes "L" ∷ []) no_properties

abbrev right : RelationshipPattern
right = hop false None true

abbrev left : RelationshipPattern
left = hop true None false

abbrev either_way : RelationshipPattern
either_way = hop false None false

abbrev ranged : (least most : ℕ) → RelationshipPattern
ranged least most = hop false (detail None [] (between least most) no_properties) true

abbrev pub ExamplesOfCost : Type 0
ExamplesOfCost =
    -- no path: the whole match alone; a node: three anchors and three matches
    Costs None [] [] 1
    × Costs None (path_of None any [] ∷ []) (at 0 ∷ []) 6
    -- a label leaves one anchor, from either end of a hop
    × Costs None (path_of None labelled ((right, any) ∷ []) ∷ []) (at 0 ∷ []) 5
    × Costs None (path_of None labelled ((right, any) ∷ []) ∷ []) (at 1 ∷ []) 9
    × Costs None (path_of None any ((right, labelled) ∷ []) ∷ []) (at 1 ∷ []) 5
    -- a self-loop is tried once both ways, and not again
    × Costs None (path_of None labelled ((either_way, any) ∷ []) ∷ []) (at 0 ∷ []) 7
    × Costs None (path_of None labelled ((either_way, any) ∷ (either_way, any) ∷ []) ∷ []) (at 0 ∷ []) 15
    -- rightwards, then leftwards from the anchor again
    × Costs None (path_of None any ((right, labelled) ∷ (left, any) ∷ []) ∷ []) (at 1 ∷ []) 9
    × Costs None (path_of None any ((right, any) ∷ (right, any) ∷ []) ∷ []) (at 1 ∷ []) 18
    -- a range ended and the same range still open are two beginnings
    × Costs None (path_of None labelled ((ranged 0 0, any) ∷ []) ∷ []) (at 0 ∷ []) 2
    × Costs None (path_of None labelled ((ranged 0 2, any) ∷ []) ∷ []) (at 0 ∷ []) 11
    × Costs None (path_of None labelled ((ranged 1 3, labelled) ∷ []) ∷ []) (at 0 ∷ []) 10
    × Costs None (path_of None labelled ((ranged 1 2, any) ∷ []) ∷ []) (at 1 ∷ []) 17
    -- nothing ends where the least is above the greatest, and the list grows all the same
    × Costs None (path_of None labelled ((ranged 3 1, any) ∷ []) ∷ []) (at 0 ∷ []) 3
    -- ranges side by side
    × Costs None (path_of None labelled ((ranged 0 1, any) ∷ (ranged 0 1, any) ∷ []) ∷ []) (at 0 ∷ []) 15
    -- two paths: the second begins at the bound node, and no relationship is taken twice
    × Costs None (path_of None labelled ((right, any) ∷ []) ∷ path_of None called_a ((right, any) ∷ []) ∷ []) (at 0 ∷ at 0 ∷ []) 11
    -- a fixed value with an index and without
    × Costs None (path_of None (node_place None (codes "L" ∷ []) (given (pair (named "k") (number 2) no_pairs))) [] ∷ []) (over_index 0 ∷ []) 0
    × Costs None (path_of None (node_place None (codes "L" ∷ []) (given (pair (named "k") (number 2) no_pairs))) [] ∷ []) (at 0 ∷ []) 1
    × Costs (Some (chain (dot (var "a") "k") (operand Equal (number 2) no_operands))) (path_of None labelled [] ∷ []) (over_index 0 ∷ []) 0
    × Costs (Some (chain (dot (var "a") "k") (operand Equal (number 2) no_operands))) (path_of None labelled [] ∷ []) (at 0 ∷ []) 2
