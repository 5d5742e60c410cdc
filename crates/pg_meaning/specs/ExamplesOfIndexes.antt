-- Worked examples of anchors over indexes: one order and one cost.
use Rattle.std.specs.Prelude.{ℕ, true, false, [], ◌∷◌, Result, Ok, Some, None, codes, pos, ◌≡◌}
use Rattle.pg_meaning.specs.Answer.{◌>>=◌}
use Rattle.pg_meaning.specs.ExampleTrees.{named, var, number, string, dot, node_place, detail, hop, path_of, column, project, query_of, ask, told, answered, refused}
use Rattle.pg_meaning.specs.Graph.{Graph}
use Rattle.pg_meaning.specs.Plans.{Catalogue, plan_of, plan_over}
use Rattle.pg_meaning.specs.Queries.{under_plan}
use Rattle.pg_meaning.specs.Tree.{parameter, call, chain, no_expressions, expression, no_pairs, pair, no_operands, operand, no_properties, given, set_property, match_paths, create, set_items, with_rows, return_rows, Query}
use Rattle.pg_meaning.specs.Value.{integer, text, no_entries, entry}
use Rattle.pg_meaning.specs.declared.fault.Fault.{Fault}
use Rattle.pg_meaning.specs.declared.fault.Fault.TheVariants.{DivisionByZero, StepQuota}
use Rattle.pg_meaning.specs.declared.operators.Operator.TheVariants.{Equal, Divide, And}

-- CREATE (a:P {name:'x'})-[r:K]->(b:P {name:'y'}) RETURN id(a), id(r), id(b)
abbrev pub query_1 : Query
query_1 = query_of (create ((path_of None (node_place (Some (named "a")) ((codes "P") ∷ []) (given (pair (named "name") (string "x") no_pairs))) (((hop false (detail (Some (named "r")) ((true, (named "K")) ∷ []) None no_properties) true), (node_place (Some (named "b")) ((codes "P") ∷ []) (given (pair (named "name") (string "y") no_pairs)))) ∷ [])) ∷ []) ∷ return_rows (project false None ((column (codes "id(a)") (call (named "id") false false (expression (var "a") no_expressions)) None) ∷ (column (codes "id(r)") (call (named "id") false false (expression (var "r") no_expressions)) None) ∷ (column (codes "id(b)") (call (named "id") false false (expression (var "b") no_expressions)) None) ∷ []) [] None None) ∷ [])

-- MATCH (n:P {name:'x'}) RETURN id(n)
abbrev pub query_2 : Query
query_2 = query_of (match_paths false ((path_of None (node_place (Some (named "n")) ((codes "P") ∷ []) (given (pair (named "name") (string "x") no_pairs))) []) ∷ []) None ∷ return_rows (project false None ((column (codes "id(n)") (call (named "id") false false (expression (var "n") no_expressions)) None) ∷ []) [] None None) ∷ [])

-- with the index
abbrev pub Example_1 : Type 0
Example_1 =
    told (ask [] 1000 query_1 no_entries ∷ ask (((codes "P"), (codes "name")) ∷ []) 1000 query_2 no_entries ∷ [])
    ≡ (answered ((codes "id(a)") ∷ (codes "id(r)") ∷ (codes "id(b)") ∷ []) (((integer (pos 0)) ∷ (integer (pos 0)) ∷ (integer (pos 1)) ∷ []) ∷ []) 4 ∷ answered ((codes "id(n)") ∷ []) (((integer (pos 0)) ∷ []) ∷ []) 3 ∷ [])

-- without it
abbrev pub Example_2 : Type 0
Example_2 =
    told (ask [] 1000 query_1 no_entries ∷ ask [] 1000 query_2 no_entries ∷ [])
    ≡ (answered ((codes "id(a)") ∷ (codes "id(r)") ∷ (codes "id(b)") ∷ []) (((integer (pos 0)) ∷ (integer (pos 0)) ∷ (integer (pos 1)) ∷ []) ∷ []) 4 ∷ answered ((codes "id(n)") ∷ []) (((integer (pos 0)) ∷ []) ∷ []) 4 ∷ [])

-- CREATE (:P {name:'x'})
abbrev pub query_3 : Query
query_3 = query_of (create ((path_of None (node_place None ((codes "P") ∷ []) (given (pair (named "name") (string "x") no_pairs))) []) ∷ []) ∷ [])

-- CREATE (:P {name:'y'})
abbrev pub query_4 : Query
query_4 = query_of (create ((path_of None (node_place None ((codes "P") ∷ []) (given (pair (named "name") (string "y") no_pairs))) []) ∷ []) ∷ [])

-- three steps with the index
abbrev pub Example_3 : Type 0
Example_3 =
    told (ask [] 3 query_3 no_entries ∷ ask [] 3 query_4 no_entries ∷ ask (((codes "P"), (codes "name")) ∷ []) 3 query_2 no_entries ∷ [])
    ≡ (answered [] [] 1 ∷ answered [] [] 1 ∷ answered ((codes "id(n)") ∷ []) (((integer (pos 0)) ∷ []) ∷ []) 3 ∷ [])

-- three steps without it
abbrev pub Example_4 : Type 0
Example_4 =
    told (ask [] 3 query_3 no_entries ∷ ask [] 3 query_4 no_entries ∷ ask [] 3 query_2 no_entries ∷ [])
    ≡ (answered [] [] 1 ∷ answered [] [] 1 ∷ refused StepQuota ∷ [])

-- CREATE (t1:T {k:'v'}), (t2:T {k:'v'}), (s1:S), (s2:S), (s1)-[:K]->(t2), (s2)-[:K]->(t1)
abbrev pub query_5 : Query
query_5 = query_of (create ((path_of None (node_place (Some (named "t1")) ((codes "T") ∷ []) (given (pair (named "k") (string "v") no_pairs))) []) ∷ (path_of None (node_place (Some (named "t2")) ((codes "T") ∷ []) (given (pair (named "k") (string "v") no_pairs))) []) ∷ (path_of None (node_place (Some (named "s1")) ((codes "S") ∷ []) no_properties) []) ∷ (path_of None (node_place (Some (named "s2")) ((codes "S") ∷ []) no_properties) []) ∷ (path_of None (node_place (Some (named "s1")) [] no_properties) (((hop false (detail None ((true, (named "K")) ∷ []) None no_properties) true), (node_place (Some (named "t2")) [] no_properties)) ∷ [])) ∷ (path_of None (node_place (Some (named "s2")) [] no_properties) (((hop false (detail None ((true, (named "K")) ∷ []) None no_properties) true), (node_place (Some (named "t1")) [] no_properties)) ∷ [])) ∷ []) ∷ [])

-- MATCH (s:S)-[:K]->(t:T {k:'v'}) RETURN id(s)
abbrev pub query_6 : Query
query_6 = query_of (match_paths false ((path_of None (node_place (Some (named "s")) ((codes "S") ∷ []) no_properties) (((hop false (detail None ((true, (named "K")) ∷ []) None no_properties) true), (node_place (Some (named "t")) ((codes "T") ∷ []) (given (pair (named "k") (string "v") no_pairs)))) ∷ [])) ∷ []) None ∷ return_rows (project false None ((column (codes "id(s)") (call (named "id") false false (expression (var "s") no_expressions)) None) ∷ []) [] None None) ∷ [])

-- the anchor decides the order
abbrev pub Example_5 : Type 0
Example_5 =
    told (ask [] 1000 query_5 no_entries ∷ ask [] 1000 query_6 no_entries ∷ ask (((codes "T"), (codes "k")) ∷ []) 1000 query_6 no_entries ∷ [])
    ≡ (answered [] [] 6 ∷ answered ((codes "id(s)") ∷ []) (((integer (pos 2)) ∷ []) ∷ ((integer (pos 3)) ∷ []) ∷ []) 8 ∷ answered ((codes "id(s)") ∷ []) (((integer (pos 3)) ∷ []) ∷ ((integer (pos 2)) ∷ []) ∷ []) 8 ∷ [])

-- MATCH (n:P {name:'x'}) SET n.name = 'z' WITH n MATCH (m:P {name:'x'}) RETURN id(m)
abbrev pub query_7 : Query
query_7 = query_of (match_paths false ((path_of None (node_place (Some (named "n")) ((codes "P") ∷ []) (given (pair (named "name") (string "x") no_pairs))) []) ∷ []) None ∷ set_items ((set_property (named "n") (named "name") (string "z")) ∷ []) ∷ with_rows (project false None ((column (codes "n") (var "n") None) ∷ []) [] None None) None ∷ match_paths false ((path_of None (node_place (Some (named "m")) ((codes "P") ∷ []) (given (pair (named "name") (string "x") no_pairs))) []) ∷ []) None ∷ return_rows (project false None ((column (codes "id(m)") (call (named "id") false false (expression (var "m") no_expressions)) None) ∷ []) [] None None) ∷ [])

-- an index after a change of the value
abbrev pub Example_6 : Type 0
Example_6 =
    told (ask [] 1000 query_1 no_entries ∷ ask (((codes "P"), (codes "name")) ∷ []) 1000 query_7 no_entries ∷ [])
    ≡ (answered ((codes "id(a)") ∷ (codes "id(r)") ∷ (codes "id(b)") ∷ []) (((integer (pos 0)) ∷ (integer (pos 0)) ∷ (integer (pos 1)) ∷ []) ∷ []) 4 ∷ answered ((codes "id(m)") ∷ []) [] 4 ∷ [])

-- MATCH (n:P) WHERE n.name = 'q' AND 1 / 0 = 1 RETURN id(n)
abbrev pub query_8 : Query
query_8 = query_of (match_paths false ((path_of None (node_place (Some (named "n")) ((codes "P") ∷ []) no_properties) []) ∷ []) (Some (chain (chain (dot (var "n") "name") (operand Equal (string "q") no_operands)) (operand And (chain (chain (number 1) (operand Divide (number 0) no_operands)) (operand Equal (number 1) no_operands)) no_operands))) ∷ return_rows (project false None ((column (codes "id(n)") (call (named "id") false false (expression (var "n") no_expressions)) None) ∷ []) [] None None) ∷ [])

-- MATCH (n:P) WHERE n.name = 'y' AND 1 / 0 = 1 RETURN id(n)
abbrev pub query_9 : Query
query_9 = query_of (match_paths false ((path_of None (node_place (Some (named "n")) ((codes "P") ∷ []) no_properties) []) ∷ []) (Some (chain (chain (dot (var "n") "name") (operand Equal (string "y") no_operands)) (operand And (chain (chain (number 1) (operand Divide (number 0) no_operands)) (operand Equal (number 1) no_operands)) no_operands))) ∷ return_rows (project false None ((column (codes "id(n)") (call (named "id") false false (expression (var "n") no_expressions)) None) ∷ []) [] None None) ∷ [])

-- MATCH (n:P) WHERE n.name = 'x' RETURN id(n)
abbrev pub query_10 : Query
query_10 = query_of (match_paths false ((path_of None (node_place (Some (named "n")) ((codes "P") ∷ []) no_properties) []) ∷ []) (Some (chain (dot (var "n") "name") (operand Equal (string "x") no_operands))) ∷ return_rows (project false None ((column (codes "id(n)") (call (named "id") false false (expression (var "n") no_expressions)) None) ∷ []) [] None None) ∷ [])

-- a leading conjunct with the index
abbrev pub Example_7 : Type 0
Example_7 =
    told (ask [] 1000 query_1 no_entries ∷ ask (((codes "P"), (codes "name")) ∷ []) 1000 query_8 no_entries ∷ ask (((codes "P"), (codes "name")) ∷ []) 1000 query_9 no_entries ∷ ask (((codes "P"), (codes "name")) ∷ []) 1000 query_10 no_entries ∷ [])
    ≡ (answered ((codes "id(a)") ∷ (codes "id(r)") ∷ (codes "id(b)") ∷ []) (((integer (pos 0)) ∷ (integer (pos 0)) ∷ (integer (pos 1)) ∷ []) ∷ []) 4 ∷ answered ((codes "id(n)") ∷ []) [] 0 ∷ refused DivisionByZero ∷ answered ((codes "id(n)") ∷ []) (((integer (pos 0)) ∷ []) ∷ []) 3 ∷ [])

-- a leading conjunct without the index
abbrev pub Example_8 : Type 0
Example_8 =
    told (ask [] 1000 query_1 no_entries ∷ ask [] 1000 query_8 no_entries ∷ ask [] 1000 query_9 no_entries ∷ ask [] 1000 query_10 no_entries ∷ [])
    ≡ (answered ((codes "id(a)") ∷ (codes "id(r)") ∷ (codes "id(b)") ∷ []) (((integer (pos 0)) ∷ (integer (pos 0)) ∷ (integer (pos 1)) ∷ []) ∷ []) 4 ∷ answered ((codes "id(n)") ∷ []) [] 4 ∷ refused DivisionByZero ∷ answered ((codes "id(n)") ∷ []) (((integer (pos 0)) ∷ []) ∷ []) 5 ∷ [])

-- MATCH (n:P) WHERE n.name = $p RETURN id(n)
abbrev pub query_11 : Query
query_11 = query_of (match_paths false ((path_of None (node_place (Some (named "n")) ((codes "P") ∷ []) no_properties) []) ∷ []) (Some (chain (dot (var "n") "name") (operand Equal (parameter (named "p")) no_operands))) ∷ return_rows (project false None ((column (codes "id(n)") (call (named "id") false false (expression (var "n") no_expressions)) None) ∷ []) [] None None) ∷ [])

-- MATCH (n:P) WHERE $p = n.name RETURN id(n)
abbrev pub query_12 : Query
query_12 = query_of (match_paths false ((path_of None (node_place (Some (named "n")) ((codes "P") ∷ []) no_properties) []) ∷ []) (Some (chain (parameter (named "p")) (operand Equal (dot (var "n") "name") no_operands))) ∷ return_rows (project false None ((column (codes "id(n)") (call (named "id") false false (expression (var "n") no_expressions)) None) ∷ []) [] None None) ∷ [])

-- MATCH (a)-[r]->(n:P) WHERE n.name = 'y' RETURN id(a)
abbrev pub query_13 : Query
query_13 = query_of (match_paths false ((path_of None (node_place (Some (named "a")) [] no_properties) (((hop false (detail (Some (named "r")) [] None no_properties) true), (node_place (Some (named "n")) ((codes "P") ∷ []) no_properties)) ∷ [])) ∷ []) (Some (chain (dot (var "n") "name") (operand Equal (string "y") no_operands))) ∷ return_rows (project false None ((column (codes "id(a)") (call (named "id") false false (expression (var "a") no_expressions)) None) ∷ []) [] None None) ∷ [])

-- a conjunct fixes by a parameter, not the other way round
abbrev pub Example_9 : Type 0
Example_9 =
    told (ask [] 1000 query_1 no_entries ∷ ask (((codes "P"), (codes "name")) ∷ []) 1000 query_11 (entry (codes "p") (text (codes "y")) no_entries) ∷ ask (((codes "P"), (codes "name")) ∷ []) 1000 query_12 (entry (codes "p") (text (codes "y")) no_entries) ∷ ask (((codes "P"), (codes "name")) ∷ []) 1000 query_13 no_entries ∷ [])
    ≡ (answered ((codes "id(a)") ∷ (codes "id(r)") ∷ (codes "id(b)") ∷ []) (((integer (pos 0)) ∷ (integer (pos 0)) ∷ (integer (pos 1)) ∷ []) ∷ []) 4 ∷ answered ((codes "id(n)") ∷ []) (((integer (pos 1)) ∷ []) ∷ []) 3 ∷ answered ((codes "id(n)") ∷ []) (((integer (pos 1)) ∷ []) ∷ []) 5 ∷ answered ((codes "id(a)") ∷ []) (((integer (pos 0)) ∷ []) ∷ []) 4 ∷ [])

-- MATCH (m:P) MATCH (n:P) WHERE m.name = 'x' AND n.name = 'y' RETURN id(n)
abbrev pub query_14 : Query
query_14 = query_of (match_paths false ((path_of None (node_place (Some (named "m")) ((codes "P") ∷ []) no_properties) []) ∷ []) None ∷ match_paths false ((path_of None (node_place (Some (named "n")) ((codes "P") ∷ []) no_properties) []) ∷ []) (Some (chain (chain (dot (var "m") "name") (operand Equal (string "x") no_operands)) (operand And (chain (dot (var "n") "name") (operand Equal (string "y") no_operands)) no_operands))) ∷ return_rows (project false None ((column (codes "id(n)") (call (named "id") false false (expression (var "n") no_expressions)) None) ∷ []) [] None None) ∷ [])

-- MATCH (m:P), (n:P) WHERE m.name = 'x' AND n.name = 'y' RETURN id(n)
abbrev pub query_15 : Query
query_15 = query_of (match_paths false ((path_of None (node_place (Some (named "m")) ((codes "P") ∷ []) no_properties) []) ∷ (path_of None (node_place (Some (named "n")) ((codes "P") ∷ []) no_properties) []) ∷ []) (Some (chain (chain (dot (var "m") "name") (operand Equal (string "x") no_operands)) (operand And (chain (dot (var "n") "name") (operand Equal (string "y") no_operands)) no_operands))) ∷ return_rows (project false None ((column (codes "id(n)") (call (named "id") false false (expression (var "n") no_expressions)) None) ∷ []) [] None None) ∷ [])

-- a conjunct on a bound variable ends the leading ones
abbrev pub Example_10 : Type 0
Example_10 =
    told (ask [] 1000 query_1 no_entries ∷ ask (((codes "P"), (codes "name")) ∷ []) 1000 query_14 no_entries ∷ ask (((codes "P"), (codes "name")) ∷ []) 1000 query_15 no_entries ∷ [])
    ≡ (answered ((codes "id(a)") ∷ (codes "id(r)") ∷ (codes "id(b)") ∷ []) (((integer (pos 0)) ∷ (integer (pos 0)) ∷ (integer (pos 1)) ∷ []) ∷ []) 4 ∷ answered ((codes "id(n)") ∷ []) (((integer (pos 1)) ∷ []) ∷ []) 13 ∷ answered ((codes "id(n)") ∷ []) (((integer (pos 1)) ∷ []) ∷ []) 4 ∷ [])

-- MATCH (n:P) WHERE 1 / 0 = 1 AND n.name = 'q' RETURN id(n)
abbrev pub query_16 : Query
query_16 = query_of (match_paths false ((path_of None (node_place (Some (named "n")) ((codes "P") ∷ []) no_properties) []) ∷ []) (Some (chain (chain (chain (number 1) (operand Divide (number 0) no_operands)) (operand Equal (number 1) no_operands)) (operand And (chain (dot (var "n") "name") (operand Equal (string "q") no_operands)) no_operands))) ∷ return_rows (project false None ((column (codes "id(n)") (call (named "id") false false (expression (var "n") no_expressions)) None) ∷ []) [] None None) ∷ [])

-- a conjunct behind another kind does not lead
abbrev pub Example_11 : Type 0
Example_11 =
    told (ask [] 1000 query_1 no_entries ∷ ask (((codes "P"), (codes "name")) ∷ []) 1000 query_16 no_entries ∷ [])
    ≡ (answered ((codes "id(a)") ∷ (codes "id(r)") ∷ (codes "id(b)") ∷ []) (((integer (pos 0)) ∷ (integer (pos 0)) ∷ (integer (pos 1)) ∷ []) ∷ []) 4 ∷ refused DivisionByZero ∷ [])

-- (0:P {name: 'x'}), (1:P {name: 'y'})
abbrev pub two_named : Graph
two_named = record {
  nodes = (0, record { labels = codes "P" ∷ []; properties = entry (codes "name") (text (codes "x")) no_entries }) ∷ (1, record { labels = codes "P" ∷ []; properties = entry (codes "name") (text (codes "y")) no_entries }) ∷ [];
  relationships = [];
  next_node = 2;
  next_relationship = 0;
}

-- the steps under the plan that is made over some indexes, where there are others
abbrev pub steps_under : (planned there : Catalogue) → Query → Result ℕ Fault
steps_under planned there q = under_plan (plan_over there (plan_of planned q)) q no_entries two_named 1000 10 >>= λ o. Ok o.steps

abbrev pub on_name : Catalogue
on_name = (codes "P", codes "name") ∷ []

-- a plan's index that is lacking is charged as the label; one that is there serves only where the plan names it
abbrev pub Example_12 : Type 0
Example_12 =
    (steps_under on_name on_name query_2 ≡ Ok 3)
    × (steps_under on_name [] query_2 ≡ Ok 4)
    × (steps_under on_name ((codes "P", codes "k") ∷ (codes "Q", codes "name") ∷ []) query_2 ≡ Ok 4)
    × (steps_under [] on_name query_2 ≡ Ok 4)
    × (steps_under on_name on_name query_10 ≡ Ok 3)
    × (steps_under on_name [] query_10 ≡ Ok 5)

abbrev pub ExamplesOfIndexes : Type 0
ExamplesOfIndexes = Example_1 × Example_2 × Example_3 × Example_4 × Example_5 × Example_6 × Example_7 × Example_8 × Example_9 × Example_10 × Example_11 × Example_12
