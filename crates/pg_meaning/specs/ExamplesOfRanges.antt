-- Worked examples of variable length: what bounds a range, and how its list stands.
use Rattle.std.specs.Prelude.{◌≡◌, true, false, [], ◌∷◌, Option, Some, None, codes}
use Rattle.pg_meaning.specs.ExampleTrees.{named, var, node_place, detail, hop, path_of, column, project, query_of, ask, told, answered}
use Rattle.pg_meaning.specs.Tree.{no_properties, Range, create, match_paths, return_rows, Query}
use Rattle.pg_meaning.specs.Value.{list, relationship, no_entries, values_of}

-- CREATE (a:A)-[:K]->(b)-[:K]->(c)
abbrev pub chain_of_two : Query
chain_of_two = query_of (create (path_of None (node_place (Some (named "a")) (codes "A" ∷ []) no_properties) (
    (hop false (detail None ((true, named "K") ∷ []) None no_properties) true, node_place (Some (named "b")) [] no_properties)
    ∷ (hop false (detail None ((true, named "K") ∷ []) None no_properties) true, node_place (Some (named "c")) [] no_properties) ∷ []
    ) ∷ []) ∷ [])

-- MATCH (x:A)-[rs RANGE]->(y) RETURN rs
abbrev pub walked_from : Option Range → Query
walked_from range = query_of (match_paths false (path_of None (node_place (Some (named "x")) (codes "A" ∷ []) no_properties) (
    (hop false (detail (Some (named "rs")) [] range no_properties) true, node_place (Some (named "y")) [] no_properties) ∷ []
    ) ∷ []) None ∷ return_rows (project false None (column (codes "rs") (var "rs") None ∷ []) [] None None) ∷ [])

-- *..2 begins at one, and a list walked rightwards stands in that order; *2 is two; *1 is one
abbrev pub ExamplesOfRanges : Type 0
ExamplesOfRanges =
    (told (ask [] 1000 chain_of_two no_entries ∷ ask [] 1000 (walked_from (Some (record { lower = None; dots = true; upper = Some 2 }))) no_entries ∷ [])
    ≡ (answered [] [] 5 ∷ answered (codes "rs" ∷ []) ((list (values_of (relationship 0 ∷ [])) ∷ []) ∷ (list (values_of (relationship 0 ∷ relationship 1 ∷ [])) ∷ []) ∷ []) 7 ∷ []))
    × (told (ask [] 1000 chain_of_two no_entries ∷ ask [] 1000 (walked_from (Some (record { lower = Some 2; dots = false; upper = None }))) no_entries ∷ [])
    ≡ (answered [] [] 5 ∷ answered (codes "rs" ∷ []) ((list (values_of (relationship 0 ∷ relationship 1 ∷ [])) ∷ []) ∷ []) 5 ∷ []))
    × (told (ask [] 1000 chain_of_two no_entries ∷ ask [] 1000 (walked_from (Some (record { lower = Some 1; dots = false; upper = None }))) no_entries ∷ [])
    ≡ (answered [] [] 5 ∷ answered (codes "rs" ∷ []) ((list (values_of (relationship 0 ∷ [])) ∷ []) ∷ []) 4 ∷ []))
