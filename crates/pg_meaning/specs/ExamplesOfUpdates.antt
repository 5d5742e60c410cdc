-- Worked examples of CREATE, MERGE, SET, REMOVE and DELETE.
use Rattle.std.specs.Prelude.{true, false, [], ◌∷◌, Some, None, codes, pos, ◌≡◌}
use Rattle.pg_meaning.specs.ExampleTrees.{named, var, number, string, dot, node_place, detail, hop, path_of, column, project, query_of, ask, told, told_within, answered, refused}
use Rattle.pg_meaning.specs.Tree.{literal, parameter, list_literal, map_literal, call, chain, no_expressions, expression, no_pairs, pair, no_operands, operand, no_properties, given, from_parameter, set_property, set_all, set_more, set_labels, remove_property, remove_labels, match_paths, unwind, create, merge, set_items, remove_items, delete, with_rows, return_rows, Query}
use Rattle.pg_meaning.specs.Value.{null, integer, text, list, mapping, node, no_entries, entry, values_of}
use Rattle.pg_meaning.specs.declared.fault.Fault.TheVariants.{TypeFault, DivisionByZero, NotStorable, MergeNull, NodeStillConnected, DeletedEntity, StepQuota, ElementQuota}
use Rattle.pg_meaning.specs.declared.operators.Operator.TheVariants.{Divide}

-- CREATE (a:P {name:'x'})-[r:K]->(b:P {name:'y'}) RETURN id(a), id(r), id(b)
abbrev pub query_1 : Query
query_1 = query_of (create ((path_of None (node_place (Some (named "a")) ((codes "P") ∷ []) (given (pair (named "name") (string "x") no_pairs))) (((hop false (detail (Some (named "r")) ((true, (named "K")) ∷ []) None no_properties) true), (node_place (Some (named "b")) ((codes "P") ∷ []) (given (pair (named "name") (string "y") no_pairs)))) ∷ [])) ∷ []) ∷ return_rows (project false None ((column (codes "id(a)") (call (named "id") false false (expression (var "a") no_expressions)) None) ∷ (column (codes "id(r)") (call (named "id") false false (expression (var "r") no_expressions)) None) ∷ (column (codes "id(b)") (call (named "id") false false (expression (var "b") no_expressions)) None) ∷ []) [] None None) ∷ [])

-- a first graph
abbrev pub Example_1 : Type 0
Example_1 =
    told (ask [] 1000 query_1 no_entries ∷ [])
    ≡ (answered ((codes "id(a)") ∷ (codes "id(r)") ∷ (codes "id(b)") ∷ []) (((integer (pos 0)) ∷ (integer (pos 0)) ∷ (integer (pos 1)) ∷ []) ∷ []) 4 ∷ [])

-- CREATE (n:Zeta:Alpha) RETURN labels(n)
abbrev pub query_2 : Query
query_2 = query_of (create ((path_of None (node_place (Some (named "n")) ((codes "Zeta") ∷ (codes "Alpha") ∷ []) no_properties) []) ∷ []) ∷ return_rows (project false None ((column (codes "labels(n)") (call (named "labels") false false (expression (var "n") no_expressions)) None) ∷ []) [] None None) ∷ [])

-- labels in byte order
abbrev pub Example_2 : Type 0
Example_2 =
    told (ask [] 1000 query_2 no_entries ∷ [])
    ≡ (answered ((codes "labels(n)") ∷ []) (((list (values_of ((text (codes "Alpha")) ∷ (text (codes "Zeta")) ∷ []))) ∷ []) ∷ []) 2 ∷ [])

-- UNWIND [1,2,0] AS d CREATE (:T {v: 10 / d})
abbrev pub query_3 : Query
query_3 = query_of (unwind (list_literal (expression (number 1) (expression (number 2) (expression (number 0) no_expressions)))) (named "d") ∷ create ((path_of None (node_place None ((codes "T") ∷ []) (given (pair (named "v") (chain (number 10) (operand Divide (var "d") no_operands)) no_pairs))) []) ∷ []) ∷ [])

-- CREATE (t:T) RETURN id(t)
abbrev pub query_4 : Query
query_4 = query_of (create ((path_of None (node_place (Some (named "t")) ((codes "T") ∷ []) no_properties) []) ∷ []) ∷ return_rows (project false None ((column (codes "id(t)") (call (named "id") false false (expression (var "t") no_expressions)) None) ∷ []) [] None None) ∷ [])

-- a refused query takes no id
abbrev pub Example_3 : Type 0
Example_3 =
    told (ask [] 1000 query_3 no_entries ∷ ask [] 1000 query_4 no_entries ∷ [])
    ≡ (refused DivisionByZero ∷ answered ((codes "id(t)") ∷ []) (((integer (pos 0)) ∷ []) ∷ []) 2 ∷ [])

-- UNWIND ['k','k'] AS x MERGE (n:M {k:x}) RETURN id(n)
abbrev pub query_5 : Query
query_5 = query_of (unwind (list_literal (expression (string "k") (expression (string "k") no_expressions))) (named "x") ∷ merge (path_of None (node_place (Some (named "n")) ((codes "M") ∷ []) (given (pair (named "k") (var "x") no_pairs))) []) [] ∷ return_rows (project false None ((column (codes "id(n)") (call (named "id") false false (expression (var "n") no_expressions)) None) ∷ []) [] None None) ∷ [])

-- a merge sees what earlier rows made
abbrev pub Example_4 : Type 0
Example_4 =
    told (ask [] 1000 query_5 no_entries ∷ [])
    ≡ (answered ((codes "id(n)") ∷ []) (((integer (pos 0)) ∷ []) ∷ ((integer (pos 0)) ∷ []) ∷ []) 7 ∷ [])

-- MATCH (a:P {name:'x'}) DELETE a
abbrev pub query_6 : Query
query_6 = query_of (match_paths false ((path_of None (node_place (Some (named "a")) ((codes "P") ∷ []) (given (pair (named "name") (string "x") no_pairs))) []) ∷ []) None ∷ delete false ((var "a") ∷ []) ∷ [])

-- MATCH (a:P {name:'x'}) DETACH DELETE a RETURN count(*)
abbrev pub query_7 : Query
query_7 = query_of (match_paths false ((path_of None (node_place (Some (named "a")) ((codes "P") ∷ []) (given (pair (named "name") (string "x") no_pairs))) []) ∷ []) None ∷ delete true ((var "a") ∷ []) ∷ return_rows (project false None ((column (codes "count(*)") (call (named "count") true false no_expressions) None) ∷ []) [] None None) ∷ [])

-- deleting a connected node
abbrev pub Example_5 : Type 0
Example_5 =
    told (ask [] 1000 query_1 no_entries ∷ ask [] 1000 query_6 no_entries ∷ ask [] 1000 query_7 no_entries ∷ [])
    ≡ (answered ((codes "id(a)") ∷ (codes "id(r)") ∷ (codes "id(b)") ∷ []) (((integer (pos 0)) ∷ (integer (pos 0)) ∷ (integer (pos 1)) ∷ []) ∷ []) 4 ∷ refused NodeStillConnected ∷ answered ((codes "count(*)") ∷ []) (((integer (pos 1)) ∷ []) ∷ []) 6 ∷ [])

-- UNWIND range(1,10) AS i CREATE (:N)
abbrev pub query_8 : Query
query_8 = query_of (unwind (call (named "range") false false (expression (number 1) (expression (number 10) no_expressions))) (named "i") ∷ create ((path_of None (node_place None ((codes "N") ∷ []) no_properties) []) ∷ []) ∷ [])

-- as many elements as the quota has
abbrev pub Example_6 : Type 0
Example_6 =
    told (ask [] 1000 query_8 no_entries ∷ [])
    ≡ (answered [] [] 20 ∷ [])

-- UNWIND range(1,11) AS i CREATE (:N)
abbrev pub query_9 : Query
query_9 = query_of (unwind (call (named "range") false false (expression (number 1) (expression (number 11) no_expressions))) (named "i") ∷ create ((path_of None (node_place None ((codes "N") ∷ []) no_properties) []) ∷ []) ∷ [])

-- MATCH (n) RETURN count(*)
abbrev pub query_10 : Query
query_10 = query_of (match_paths false ((path_of None (node_place (Some (named "n")) [] no_properties) []) ∷ []) None ∷ return_rows (project false None ((column (codes "count(*)") (call (named "count") true false no_expressions) None) ∷ []) [] None None) ∷ [])

-- one element more
abbrev pub Example_7 : Type 0
Example_7 =
    told (ask [] 1000 query_9 no_entries ∷ ask [] 1000 query_10 no_entries ∷ [])
    ≡ (refused ElementQuota ∷ answered ((codes "count(*)") ∷ []) (((integer (pos 0)) ∷ []) ∷ []) 0 ∷ [])

-- UNWIND range(1,12) AS i CREATE (:N {i:i})-[:K]->(:N)-[:K]->(:N)
abbrev pub query_11 : Query
query_11 = query_of (unwind (call (named "range") false false (expression (number 1) (expression (number 12) no_expressions))) (named "i") ∷ create ((path_of None (node_place None ((codes "N") ∷ []) (given (pair (named "i") (var "i") no_pairs))) (((hop false (detail None ((true, (named "K")) ∷ []) None no_properties) true), (node_place None ((codes "N") ∷ []) no_properties)) ∷ ((hop false (detail None ((true, (named "K")) ∷ []) None no_properties) true), (node_place None ((codes "N") ∷ []) no_properties)) ∷ [])) ∷ []) ∷ [])

-- MATCH (a:N)-[:K]->(b:N)-[:K]->(c:N) RETURN count(*)
abbrev pub query_12 : Query
query_12 = query_of (match_paths false ((path_of None (node_place (Some (named "a")) ((codes "N") ∷ []) no_properties) (((hop false (detail None ((true, (named "K")) ∷ []) None no_properties) true), (node_place (Some (named "b")) ((codes "N") ∷ []) no_properties)) ∷ ((hop false (detail None ((true, (named "K")) ∷ []) None no_properties) true), (node_place (Some (named "c")) ((codes "N") ∷ []) no_properties)) ∷ [])) ∷ []) None ∷ return_rows (project false None ((column (codes "count(*)") (call (named "count") true false no_expressions) None) ∷ []) [] None None) ∷ [])

-- MATCH (n) DETACH DELETE n
abbrev pub query_13 : Query
query_13 = query_of (match_paths false ((path_of None (node_place (Some (named "n")) [] no_properties) []) ∷ []) None ∷ delete true ((var "n") ∷ []) ∷ [])

-- row L in small: chains
abbrev pub Example_8 : Type 0
Example_8 =
    told_within 100 (ask [] 1000 query_11 no_entries ∷ ask [] 1000 query_12 no_entries ∷ ask [] 1000 query_13 no_entries ∷ [])
    ≡ (answered [] [] 72 ∷ answered ((codes "count(*)") ∷ []) (((integer (pos 12)) ∷ []) ∷ []) 96 ∷ answered [] [] 132 ∷ [])

-- UNWIND [0] AS d CREATE ({v: 1 / d})
abbrev pub query_14 : Query
query_14 = query_of (unwind (list_literal (expression (number 0) no_expressions)) (named "d") ∷ create ((path_of None (node_place None [] (given (pair (named "v") (chain (number 1) (operand Divide (var "d") no_operands)) no_pairs))) []) ∷ []) ∷ [])

-- steps come before expressions
abbrev pub Example_9 : Type 0
Example_9 =
    told (ask [] 1 query_14 no_entries ∷ [])
    ≡ (refused StepQuota ∷ [])

-- CREATE (a:P) DELETE a RETURN a
abbrev pub query_15 : Query
query_15 = query_of (create ((path_of None (node_place (Some (named "a")) ((codes "P") ∷ []) no_properties) []) ∷ []) ∷ delete false ((var "a") ∷ []) ∷ return_rows (project false None ((column (codes "a") (var "a") None) ∷ []) [] None None) ∷ [])

-- a deleted node in the output
abbrev pub Example_10 : Type 0
Example_10 =
    told (ask [] 1000 query_15 no_entries ∷ [])
    ≡ (refused DeletedEntity ∷ [])

-- MATCH (a)-[r]->(b) DELETE r, a RETURN b.name
abbrev pub query_16 : Query
query_16 = query_of (match_paths false ((path_of None (node_place (Some (named "a")) [] no_properties) (((hop false (detail (Some (named "r")) [] None no_properties) true), (node_place (Some (named "b")) [] no_properties)) ∷ [])) ∷ []) None ∷ delete false ((var "r") ∷ (var "a") ∷ []) ∷ return_rows (project false None ((column (codes "b.name") (dot (var "b") "name") None) ∷ []) [] None None) ∷ [])

-- a node deleted with its relationship
abbrev pub Example_11 : Type 0
Example_11 =
    told (ask [] 1000 query_1 no_entries ∷ ask [] 1000 query_16 no_entries ∷ [])
    ≡ (answered ((codes "id(a)") ∷ (codes "id(r)") ∷ (codes "id(b)") ∷ []) (((integer (pos 0)) ∷ (integer (pos 0)) ∷ (integer (pos 1)) ∷ []) ∷ []) 4 ∷ answered ((codes "b.name") ∷ []) (((text (codes "y")) ∷ []) ∷ []) 7 ∷ [])

-- MATCH (n:P) REMOVE n.name RETURN n.name
abbrev pub query_17 : Query
query_17 = query_of (match_paths false ((path_of None (node_place (Some (named "n")) ((codes "P") ∷ []) no_properties) []) ∷ []) None ∷ remove_items ((remove_property (named "n") (named "name")) ∷ []) ∷ return_rows (project false None ((column (codes "n.name") (dot (var "n") "name") None) ∷ []) [] None None) ∷ [])

-- a property removed
abbrev pub Example_12 : Type 0
Example_12 =
    told (ask [] 1000 query_1 no_entries ∷ ask [] 1000 query_17 no_entries ∷ [])
    ≡ (answered ((codes "id(a)") ∷ (codes "id(r)") ∷ (codes "id(b)") ∷ []) (((integer (pos 0)) ∷ (integer (pos 0)) ∷ (integer (pos 1)) ∷ []) ∷ []) 4 ∷ answered ((codes "n.name") ∷ []) ((null ∷ []) ∷ (null ∷ []) ∷ []) 8 ∷ [])

-- UNWIND range(1,3) AS i CREATE (:N)
abbrev pub query_18 : Query
query_18 = query_of (unwind (call (named "range") false false (expression (number 1) (expression (number 3) no_expressions))) (named "i") ∷ create ((path_of None (node_place None ((codes "N") ∷ []) no_properties) []) ∷ []) ∷ [])

-- MATCH (:N) RETURN count(*)
abbrev pub query_19 : Query
query_19 = query_of (match_paths false ((path_of None (node_place None ((codes "N") ∷ []) no_properties) []) ∷ []) None ∷ return_rows (project false None ((column (codes "count(*)") (call (named "count") true false no_expressions) None) ∷ []) [] None None) ∷ [])

-- rows of no column
abbrev pub Example_13 : Type 0
Example_13 =
    told (ask [] 1000 query_18 no_entries ∷ ask [] 1000 query_19 no_entries ∷ [])
    ≡ (answered [] [] 6 ∷ answered ((codes "count(*)") ∷ []) (((integer (pos 3)) ∷ []) ∷ []) 9 ∷ [])

-- two tenants: one pool
abbrev pub Example_14 : Type 0
Example_14 =
    told (ask [] 1000 query_1 no_entries ∷ ask [] 1000 query_13 no_entries ∷ ask [] 1000 query_1 no_entries ∷ [])
    ≡ (answered ((codes "id(a)") ∷ (codes "id(r)") ∷ (codes "id(b)") ∷ []) (((integer (pos 0)) ∷ (integer (pos 0)) ∷ (integer (pos 1)) ∷ []) ∷ []) 4 ∷ answered [] [] 7 ∷ answered ((codes "id(a)") ∷ (codes "id(r)") ∷ (codes "id(b)") ∷ []) (((integer (pos 2)) ∷ (integer (pos 1)) ∷ (integer (pos 3)) ∷ []) ∷ []) 4 ∷ [])

-- CREATE (n:A {x:1, y:2}) RETURN id(n)
abbrev pub query_20 : Query
query_20 = query_of (create ((path_of None (node_place (Some (named "n")) ((codes "A") ∷ []) (given (pair (named "x") (number 1) (pair (named "y") (number 2) no_pairs)))) []) ∷ []) ∷ return_rows (project false None ((column (codes "id(n)") (call (named "id") false false (expression (var "n") no_expressions)) None) ∷ []) [] None None) ∷ [])

-- MATCH (n:A) SET n.x = null, n += {z:3}, n:B RETURN n.x, n.y, n.z, labels(n)
abbrev pub query_21 : Query
query_21 = query_of (match_paths false ((path_of None (node_place (Some (named "n")) ((codes "A") ∷ []) no_properties) []) ∷ []) None ∷ set_items ((set_property (named "n") (named "x") (literal null)) ∷ (set_more (named "n") (map_literal (pair (named "z") (number 3) no_pairs))) ∷ (set_labels (named "n") ((named "B") ∷ [])) ∷ []) ∷ return_rows (project false None ((column (codes "n.x") (dot (var "n") "x") None) ∷ (column (codes "n.y") (dot (var "n") "y") None) ∷ (column (codes "n.z") (dot (var "n") "z") None) ∷ (column (codes "labels(n)") (call (named "labels") false false (expression (var "n") no_expressions)) None) ∷ []) [] None None) ∷ [])

-- MATCH (n:A) SET n = {w:4, v:null} REMOVE n:A RETURN n.y, n.w, labels(n)
abbrev pub query_22 : Query
query_22 = query_of (match_paths false ((path_of None (node_place (Some (named "n")) ((codes "A") ∷ []) no_properties) []) ∷ []) None ∷ set_items ((set_all (named "n") (map_literal (pair (named "w") (number 4) (pair (named "v") (literal null) no_pairs)))) ∷ []) ∷ remove_items ((remove_labels (named "n") ((named "A") ∷ [])) ∷ []) ∷ return_rows (project false None ((column (codes "n.y") (dot (var "n") "y") None) ∷ (column (codes "n.w") (dot (var "n") "w") None) ∷ (column (codes "labels(n)") (call (named "labels") false false (expression (var "n") no_expressions)) None) ∷ []) [] None None) ∷ [])

-- SET of a property, of a map, of more, of labels; null removes
abbrev pub Example_15 : Type 0
Example_15 =
    told (ask [] 1000 query_20 no_entries ∷ ask [] 1000 query_21 no_entries ∷ ask [] 1000 query_22 no_entries ∷ [])
    ≡ (answered ((codes "id(n)") ∷ []) (((integer (pos 0)) ∷ []) ∷ []) 2 ∷ answered ((codes "n.x") ∷ (codes "n.y") ∷ (codes "n.z") ∷ (codes "labels(n)") ∷ []) ((null ∷ (integer (pos 2)) ∷ (integer (pos 3)) ∷ (list (values_of ((text (codes "A")) ∷ (text (codes "B")) ∷ []))) ∷ []) ∷ []) 6 ∷ answered ((codes "n.y") ∷ (codes "n.w") ∷ (codes "labels(n)") ∷ []) ((null ∷ (integer (pos 4)) ∷ (list (values_of ((text (codes "B")) ∷ []))) ∷ []) ∷ []) 5 ∷ [])

-- OPTIONAL MATCH (n:N) SET n.x = 1 / 0 RETURN n
abbrev pub query_23 : Query
query_23 = query_of (match_paths true ((path_of None (node_place (Some (named "n")) ((codes "N") ∷ []) no_properties) []) ∷ []) None ∷ set_items ((set_property (named "n") (named "x") (chain (number 1) (operand Divide (number 0) no_operands))) ∷ []) ∷ return_rows (project false None ((column (codes "n") (var "n") None) ∷ []) [] None None) ∷ [])

-- CREATE (n) SET n.x = [[1]]
abbrev pub query_24 : Query
query_24 = query_of (create ((path_of None (node_place (Some (named "n")) [] no_properties) []) ∷ []) ∷ set_items ((set_property (named "n") (named "x") (list_literal (expression (list_literal (expression (number 1) no_expressions)) no_expressions))) ∷ []) ∷ [])

-- CREATE (n) SET n = 1
abbrev pub query_25 : Query
query_25 = query_of (create ((path_of None (node_place (Some (named "n")) [] no_properties) []) ∷ []) ∷ set_items ((set_all (named "n") (number 1)) ∷ []) ∷ [])

-- CREATE (n)-[r:K]->(m) SET r:L
abbrev pub query_26 : Query
query_26 = query_of (create ((path_of None (node_place (Some (named "n")) [] no_properties) (((hop false (detail (Some (named "r")) ((true, (named "K")) ∷ []) None no_properties) true), (node_place (Some (named "m")) [] no_properties)) ∷ [])) ∷ []) ∷ set_items ((set_labels (named "r") ((named "L") ∷ [])) ∷ []) ∷ [])

-- SET on null does nothing, of a list of lists is refused
abbrev pub Example_16 : Type 0
Example_16 =
    told (ask [] 1000 query_23 no_entries ∷ ask [] 1000 query_24 no_entries ∷ ask [] 1000 query_25 no_entries ∷ ask [] 1000 query_26 no_entries ∷ [])
    ≡ (answered ((codes "n") ∷ []) ((null ∷ []) ∷ []) 2 ∷ refused NotStorable ∷ refused TypeFault ∷ refused TypeFault ∷ [])

-- MERGE (n:M {k:1}) ON CREATE SET n.c = 1 ON MATCH SET n.m = 2 RETURN n.c, n.m
abbrev pub query_27 : Query
query_27 = query_of (merge (path_of None (node_place (Some (named "n")) ((codes "M") ∷ []) (given (pair (named "k") (number 1) no_pairs))) []) ((true, ((set_property (named "n") (named "c") (number 1)) ∷ [])) ∷ (false, ((set_property (named "n") (named "m") (number 2)) ∷ [])) ∷ []) ∷ return_rows (project false None ((column (codes "n.c") (dot (var "n") "c") None) ∷ (column (codes "n.m") (dot (var "n") "m") None) ∷ []) [] None None) ∷ [])

-- MERGE (n:M {k:1}) ON CREATE SET n.c = 3 ON MATCH SET n.m = 2 RETURN n.c, n.m
abbrev pub query_28 : Query
query_28 = query_of (merge (path_of None (node_place (Some (named "n")) ((codes "M") ∷ []) (given (pair (named "k") (number 1) no_pairs))) []) ((true, ((set_property (named "n") (named "c") (number 3)) ∷ [])) ∷ (false, ((set_property (named "n") (named "m") (number 2)) ∷ [])) ∷ []) ∷ return_rows (project false None ((column (codes "n.c") (dot (var "n") "c") None) ∷ (column (codes "n.m") (dot (var "n") "m") None) ∷ []) [] None None) ∷ [])

-- MERGE (n:M {k:null})
abbrev pub query_29 : Query
query_29 = query_of (merge (path_of None (node_place (Some (named "n")) ((codes "M") ∷ []) (given (pair (named "k") (literal null) no_pairs))) []) [] ∷ [])

-- OPTIONAL MATCH (n:N) MERGE (n)-[:K]->(m)
abbrev pub query_30 : Query
query_30 = query_of (match_paths true ((path_of None (node_place (Some (named "n")) ((codes "N") ∷ []) no_properties) []) ∷ []) None ∷ merge (path_of None (node_place (Some (named "n")) [] no_properties) (((hop false (detail None ((true, (named "K")) ∷ []) None no_properties) true), (node_place (Some (named "m")) [] no_properties)) ∷ [])) [] ∷ [])

-- ON CREATE and ON MATCH
abbrev pub Example_17 : Type 0
Example_17 =
    told (ask [] 1000 query_27 no_entries ∷ ask [] 1000 query_28 no_entries ∷ ask [] 1000 query_29 no_entries ∷ ask [] 1000 query_30 no_entries ∷ [])
    ≡ (answered ((codes "n.c") ∷ (codes "n.m") ∷ []) (((integer (pos 1)) ∷ null ∷ []) ∷ []) 3 ∷ answered ((codes "n.c") ∷ (codes "n.m") ∷ []) (((integer (pos 1)) ∷ (integer (pos 2)) ∷ []) ∷ []) 4 ∷ refused MergeNull ∷ refused TypeFault ∷ [])

-- MERGE (a:A)-[r:K]-(b:B) RETURN id(a), id(b)
abbrev pub query_31 : Query
query_31 = query_of (merge (path_of None (node_place (Some (named "a")) ((codes "A") ∷ []) no_properties) (((hop false (detail (Some (named "r")) ((true, (named "K")) ∷ []) None no_properties) false), (node_place (Some (named "b")) ((codes "B") ∷ []) no_properties)) ∷ [])) [] ∷ return_rows (project false None ((column (codes "id(a)") (call (named "id") false false (expression (var "a") no_expressions)) None) ∷ (column (codes "id(b)") (call (named "id") false false (expression (var "b") no_expressions)) None) ∷ []) [] None None) ∷ [])

-- MATCH (a:A)-[r]->(b:B) RETURN id(r)
abbrev pub query_32 : Query
query_32 = query_of (match_paths false ((path_of None (node_place (Some (named "a")) ((codes "A") ∷ []) no_properties) (((hop false (detail (Some (named "r")) [] None no_properties) true), (node_place (Some (named "b")) ((codes "B") ∷ []) no_properties)) ∷ [])) ∷ []) None ∷ return_rows (project false None ((column (codes "id(r)") (call (named "id") false false (expression (var "r") no_expressions)) None) ∷ []) [] None None) ∷ [])

-- MATCH (b:B) MERGE (b)-[r:K]-(a:A) RETURN id(a), id(r)
abbrev pub query_33 : Query
query_33 = query_of (match_paths false ((path_of None (node_place (Some (named "b")) ((codes "B") ∷ []) no_properties) []) ∷ []) None ∷ merge (path_of None (node_place (Some (named "b")) [] no_properties) (((hop false (detail (Some (named "r")) ((true, (named "K")) ∷ []) None no_properties) false), (node_place (Some (named "a")) ((codes "A") ∷ []) no_properties)) ∷ [])) [] ∷ return_rows (project false None ((column (codes "id(a)") (call (named "id") false false (expression (var "a") no_expressions)) None) ∷ (column (codes "id(r)") (call (named "id") false false (expression (var "r") no_expressions)) None) ∷ []) [] None None) ∷ [])

-- an undirected relationship is made left to right
abbrev pub Example_18 : Type 0
Example_18 =
    told (ask [] 1000 query_31 no_entries ∷ ask [] 1000 query_32 no_entries ∷ ask [] 1000 query_33 no_entries ∷ [])
    ≡ (answered ((codes "id(a)") ∷ (codes "id(b)") ∷ []) (((integer (pos 0)) ∷ (integer (pos 1)) ∷ []) ∷ []) 4 ∷ answered ((codes "id(r)") ∷ []) (((integer (pos 0)) ∷ []) ∷ []) 4 ∷ answered ((codes "id(a)") ∷ (codes "id(r)") ∷ []) (((integer (pos 0)) ∷ (integer (pos 0)) ∷ []) ∷ []) 6 ∷ [])

-- CREATE (a)-[:K {w: 1 / 0}]->(b {j: [null]})
abbrev pub query_34 : Query
query_34 = query_of (create ((path_of None (node_place (Some (named "a")) [] no_properties) (((hop false (detail None ((true, (named "K")) ∷ []) None (given (pair (named "w") (chain (number 1) (operand Divide (number 0) no_operands)) no_pairs))) true), (node_place (Some (named "b")) [] (given (pair (named "j") (list_literal (expression (literal null) no_expressions)) no_pairs)))) ∷ [])) ∷ []) ∷ [])

-- CREATE (a)-[:K {w: 1 / 0}]->(b), (c {j: [null]})
abbrev pub query_35 : Query
query_35 = query_of (create ((path_of None (node_place (Some (named "a")) [] no_properties) (((hop false (detail None ((true, (named "K")) ∷ []) None (given (pair (named "w") (chain (number 1) (operand Divide (number 0) no_operands)) no_pairs))) true), (node_place (Some (named "b")) [] no_properties)) ∷ [])) ∷ (path_of None (node_place (Some (named "c")) [] (given (pair (named "j") (list_literal (expression (literal null) no_expressions)) no_pairs))) []) ∷ []) ∷ [])

-- CREATE (a {i: [null], j: 1 / 0})
abbrev pub query_36 : Query
query_36 = query_of (create ((path_of None (node_place (Some (named "a")) [] (given (pair (named "i") (list_literal (expression (literal null) no_expressions)) (pair (named "j") (chain (number 1) (operand Divide (number 0) no_operands)) no_pairs)))) []) ∷ []) ∷ [])

-- all new nodes of a path before its relationships, path by path
abbrev pub Example_19 : Type 0
Example_19 =
    told (ask [] 1000 query_34 no_entries ∷ ask [] 1000 query_35 no_entries ∷ ask [] 1000 query_36 no_entries ∷ [])
    ≡ (refused NotStorable ∷ refused DivisionByZero ∷ refused DivisionByZero ∷ [])

-- CREATE (a $p) RETURN a.x
abbrev pub query_37 : Query
query_37 = query_of (create ((path_of None (node_place (Some (named "a")) [] (from_parameter (named "p"))) []) ∷ []) ∷ return_rows (project false None ((column (codes "a.x") (dot (var "a") "x") None) ∷ []) [] None None) ∷ [])

-- CREATE (a $p)
abbrev pub query_38 : Query
query_38 = query_of (create ((path_of None (node_place (Some (named "a")) [] (from_parameter (named "p"))) []) ∷ []) ∷ [])

-- properties from a parameter
abbrev pub Example_20 : Type 0
Example_20 =
    told (ask [] 1000 query_37 (entry (codes "p") (mapping (entry (codes "x") (integer (pos 1)) (entry (codes "y") null no_entries))) no_entries) ∷ ask [] 1000 query_38 (entry (codes "p") (integer (pos 1)) no_entries) ∷ [])
    ≡ (answered ((codes "a.x") ∷ []) (((integer (pos 1)) ∷ []) ∷ []) 2 ∷ refused TypeFault ∷ [])

-- MATCH p = (a)-[r]->(b) DELETE p, a RETURN count(*)
abbrev pub query_39 : Query
query_39 = query_of (match_paths false ((path_of (Some (named "p")) (node_place (Some (named "a")) [] no_properties) (((hop false (detail (Some (named "r")) [] None no_properties) true), (node_place (Some (named "b")) [] no_properties)) ∷ [])) ∷ []) None ∷ delete false ((var "p") ∷ (var "a") ∷ []) ∷ return_rows (project false None ((column (codes "count(*)") (call (named "count") true false no_expressions) None) ∷ []) [] None None) ∷ [])

-- OPTIONAL MATCH (n) DELETE n
abbrev pub query_40 : Query
query_40 = query_of (match_paths true ((path_of None (node_place (Some (named "n")) [] no_properties) []) ∷ []) None ∷ delete false ((var "n") ∷ []) ∷ [])

-- CREATE (a) DELETE a DELETE a
abbrev pub query_41 : Query
query_41 = query_of (create ((path_of None (node_place (Some (named "a")) [] no_properties) []) ∷ []) ∷ delete false ((var "a") ∷ []) ∷ delete false ((var "a") ∷ []) ∷ [])

-- MATCH (b:P {name:'y'}) DETACH DELETE b RETURN count(*)
abbrev pub query_42 : Query
query_42 = query_of (match_paths false ((path_of None (node_place (Some (named "b")) ((codes "P") ∷ []) (given (pair (named "name") (string "y") no_pairs))) []) ∷ []) None ∷ delete true ((var "b") ∷ []) ∷ return_rows (project false None ((column (codes "count(*)") (call (named "count") true false no_expressions) None) ∷ []) [] None None) ∷ [])

-- DELETE 1, 1 / 0
abbrev pub query_43 : Query
query_43 = query_of (delete false ((number 1) ∷ (chain (number 1) (operand Divide (number 0) no_operands)) ∷ []) ∷ [])

-- DELETE of a path, of null, of what is deleted already
abbrev pub Example_21 : Type 0
Example_21 =
    told (ask [] 1000 query_1 no_entries ∷ ask [] 1000 query_39 no_entries ∷ ask [] 1000 query_40 no_entries ∷ ask [] 1000 query_41 no_entries ∷ ask [] 1000 query_1 no_entries ∷ ask [] 1000 query_42 no_entries ∷ ask [] 1000 query_43 no_entries ∷ [])
    ≡ (answered ((codes "id(a)") ∷ (codes "id(r)") ∷ (codes "id(b)") ∷ []) (((integer (pos 0)) ∷ (integer (pos 0)) ∷ (integer (pos 1)) ∷ []) ∷ []) 4 ∷ answered ((codes "count(*)") ∷ []) (((integer (pos 1)) ∷ []) ∷ []) 8 ∷ answered [] [] 0 ∷ answered [] [] 2 ∷ answered ((codes "id(a)") ∷ (codes "id(r)") ∷ (codes "id(b)") ∷ []) (((integer (pos 3)) ∷ (integer (pos 1)) ∷ (integer (pos 4)) ∷ []) ∷ []) 4 ∷ answered ((codes "count(*)") ∷ []) (((integer (pos 1)) ∷ []) ∷ []) 6 ∷ refused TypeFault ∷ [])

-- MATCH (n:N) DELETE n WITH count(*) AS c CREATE (m:M) RETURN id(m)
abbrev pub query_44 : Query
query_44 = query_of (match_paths false ((path_of None (node_place (Some (named "n")) ((codes "N") ∷ []) no_properties) []) ∷ []) None ∷ delete false ((var "n") ∷ []) ∷ with_rows (project false None ((column (codes "count(*)") (call (named "count") true false no_expressions) (Some (named "c"))) ∷ []) [] None None) None ∷ create ((path_of None (node_place (Some (named "m")) ((codes "M") ∷ []) no_properties) []) ∷ []) ∷ return_rows (project false None ((column (codes "id(m)") (call (named "id") false false (expression (var "m") no_expressions)) None) ∷ []) [] None None) ∷ [])

-- a deleted element makes room in the same query
abbrev pub Example_22 : Type 0
Example_22 =
    told (ask [] 1000 query_8 no_entries ∷ ask [] 1000 query_44 no_entries ∷ [])
    ≡ (answered [] [] 20 ∷ answered ((codes "id(m)") ∷ []) (((integer (pos 10)) ∷ []) ∷ []) 42 ∷ [])

-- CREATE (a), (b {x: $p.name})
abbrev pub query_45 : Query
query_45 = query_of (create ((path_of None (node_place (Some (named "a")) [] no_properties) []) ∷ (path_of None (node_place (Some (named "b")) [] (given (pair (named "x") (dot (parameter (named "p")) "name") no_pairs))) []) ∷ []) ∷ [])

-- CREATE (a)-[:K {x: $p.name}]->(b)
abbrev pub query_46 : Query
query_46 = query_of (create ((path_of None (node_place (Some (named "a")) [] no_properties) (((hop false (detail None ((true, (named "K")) ∷ []) None (given (pair (named "x") (dot (parameter (named "p")) "name") no_pairs))) true), (node_place (Some (named "b")) [] no_properties)) ∷ [])) ∷ []) ∷ [])

-- an expression reads the graph that the row found, where what the row makes isn't yet
abbrev pub Example_23 : Type 0
Example_23 =
    told (ask [] 1000 query_45 (entry (codes "p") (node 0) no_entries) ∷ ask [] 1000 query_46 (entry (codes "p") (node 0) no_entries) ∷ [])
    ≡ (refused DeletedEntity ∷ refused DeletedEntity ∷ [])

abbrev pub ExamplesOfUpdates : Type 0
ExamplesOfUpdates = Example_1 × Example_2 × Example_3 × Example_4 × Example_5 × Example_6 × Example_7 × Example_8 × Example_9 × Example_10 × Example_11 × Example_12 × Example_13 × Example_14 × Example_15 × Example_16 × Example_17 × Example_18 × Example_19 × Example_20 × Example_21 × Example_22 × Example_23
