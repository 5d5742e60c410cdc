-- Worked examples of MATCH: rows of the scope and more, each as told to requests one after the other over an empty graph.
use Rattle.std.specs.Prelude.{true, false, [], ◌∷◌, Some, None, codes, pos, ◌≡◌}
use Rattle.pg_meaning.specs.ExampleTrees.{named, var, number, string, dot, node_place, between, detail, hop, path_of, column, project, query_of, ask, told, answered, refused}
use Rattle.pg_meaning.specs.Tree.{literal, list_literal, call, chain, no_expressions, expression, no_pairs, pair, no_operands, operand, no_properties, given, match_paths, unwind, create, delete, with_rows, return_rows, Query}
use Rattle.pg_meaning.specs.Value.{null, integer, text, list, node, relationship, path, no_entries, values_of}
use Rattle.pg_meaning.specs.declared.fault.Fault.TheVariants.{TypeFault, DivisionByZero, DeletedEntity}
use Rattle.pg_meaning.specs.declared.operators.Operator.TheVariants.{Equal, NotEqual, Divide, And}

-- CREATE (a:L)-[:K]->(a)
abbrev pub query_1 : Query
query_1 = query_of (create ((path_of None (node_place (Some (named "a")) ((codes "L") ∷ []) no_properties) (((hop false (detail None ((true, (named "K")) ∷ []) None no_properties) true), (node_place (Some (named "a")) [] no_properties)) ∷ [])) ∷ []) ∷ [])

-- MATCH (a:L)-[r]-(b) RETURN id(r)
abbrev pub query_2 : Query
query_2 = query_of (match_paths false ((path_of None (node_place (Some (named "a")) ((codes "L") ∷ []) no_properties) (((hop false (detail (Some (named "r")) [] None no_properties) false), (node_place (Some (named "b")) [] no_properties)) ∷ [])) ∷ []) None ∷ return_rows (project false None ((column (codes "id(r)") (call (named "id") false false (expression (var "r") no_expressions)) None) ∷ []) [] None None) ∷ [])

-- a self-loop matches once
abbrev pub Example_1 : Type 0
Example_1 =
    told (ask [] 1000 query_1 no_entries ∷ ask [] 1000 query_2 no_entries ∷ [])
    ≡ (answered [] [] 2 ∷ answered ((codes "id(r)") ∷ []) (((integer (pos 0)) ∷ []) ∷ []) 4 ∷ [])

-- CREATE (a:P {name:'x'})-[r:K]->(b:P {name:'y'}) RETURN id(a), id(r), id(b)
abbrev pub query_3 : Query
query_3 = query_of (create ((path_of None (node_place (Some (named "a")) ((codes "P") ∷ []) (given (pair (named "name") (string "x") no_pairs))) (((hop false (detail (Some (named "r")) ((true, (named "K")) ∷ []) None no_properties) true), (node_place (Some (named "b")) ((codes "P") ∷ []) (given (pair (named "name") (string "y") no_pairs)))) ∷ [])) ∷ []) ∷ return_rows (project false None ((column (codes "id(a)") (call (named "id") false false (expression (var "a") no_expressions)) None) ∷ (column (codes "id(r)") (call (named "id") false false (expression (var "r") no_expressions)) None) ∷ (column (codes "id(b)") (call (named "id") false false (expression (var "b") no_expressions)) None) ∷ []) [] None None) ∷ [])

-- MATCH (a)-[r]-(b)-[s]-(c) RETURN a
abbrev pub query_4 : Query
query_4 = query_of (match_paths false ((path_of None (node_place (Some (named "a")) [] no_properties) (((hop false (detail (Some (named "r")) [] None no_properties) false), (node_place (Some (named "b")) [] no_properties)) ∷ ((hop false (detail (Some (named "s")) [] None no_properties) false), (node_place (Some (named "c")) [] no_properties)) ∷ [])) ∷ []) None ∷ return_rows (project false None ((column (codes "a") (var "a") None) ∷ []) [] None None) ∷ [])

-- no relationship twice in a clause
abbrev pub Example_2 : Type 0
Example_2 =
    told (ask [] 1000 query_3 no_entries ∷ ask [] 1000 query_4 no_entries ∷ [])
    ≡ (answered ((codes "id(a)") ∷ (codes "id(r)") ∷ (codes "id(b)") ∷ []) (((integer (pos 0)) ∷ (integer (pos 0)) ∷ (integer (pos 1)) ∷ []) ∷ []) 4 ∷ answered ((codes "a") ∷ []) [] 6 ∷ [])

-- MATCH (a:P {name:'x'})-[rs:K*0..2]->(b) RETURN size(rs), b.name
abbrev pub query_5 : Query
query_5 = query_of (match_paths false ((path_of None (node_place (Some (named "a")) ((codes "P") ∷ []) (given (pair (named "name") (string "x") no_pairs))) (((hop false (detail (Some (named "rs")) ((true, (named "K")) ∷ []) (between 0 2) no_properties) true), (node_place (Some (named "b")) [] no_properties)) ∷ [])) ∷ []) None ∷ return_rows (project false None ((column (codes "size(rs)") (call (named "size") false false (expression (var "rs") no_expressions)) None) ∷ (column (codes "b.name") (dot (var "b") "name") None) ∷ []) [] None None) ∷ [])

-- a range from length nought
abbrev pub Example_3 : Type 0
Example_3 =
    told (ask [] 1000 query_3 no_entries ∷ ask [] 1000 query_5 no_entries ∷ [])
    ≡ (answered ((codes "id(a)") ∷ (codes "id(r)") ∷ (codes "id(b)") ∷ []) (((integer (pos 0)) ∷ (integer (pos 0)) ∷ (integer (pos 1)) ∷ []) ∷ []) 4 ∷ answered ((codes "size(rs)") ∷ (codes "b.name") ∷ []) (((integer (pos 0)) ∷ (text (codes "x")) ∷ []) ∷ ((integer (pos 1)) ∷ (text (codes "y")) ∷ []) ∷ []) 7 ∷ [])

-- OPTIONAL MATCH (n:Nobody) RETURN n
abbrev pub query_6 : Query
query_6 = query_of (match_paths true ((path_of None (node_place (Some (named "n")) ((codes "Nobody") ∷ []) no_properties) []) ∷ []) None ∷ return_rows (project false None ((column (codes "n") (var "n") None) ∷ []) [] None None) ∷ [])

-- an optional match of nothing
abbrev pub Example_4 : Type 0
Example_4 =
    told (ask [] 1000 query_6 no_entries ∷ [])
    ≡ (answered ((codes "n") ∷ []) ((null ∷ []) ∷ []) 1 ∷ [])

-- CREATE (a), (b), (a)-[:K]->(b), (a)-[:K]->(b)
abbrev pub query_7 : Query
query_7 = query_of (create ((path_of None (node_place (Some (named "a")) [] no_properties) []) ∷ (path_of None (node_place (Some (named "b")) [] no_properties) []) ∷ (path_of None (node_place (Some (named "a")) [] no_properties) (((hop false (detail None ((true, (named "K")) ∷ []) None no_properties) true), (node_place (Some (named "b")) [] no_properties)) ∷ [])) ∷ (path_of None (node_place (Some (named "a")) [] no_properties) (((hop false (detail None ((true, (named "K")) ∷ []) None no_properties) true), (node_place (Some (named "b")) [] no_properties)) ∷ [])) ∷ []) ∷ [])

-- MATCH (a)-[r]->(b)<-[s]-(c) RETURN id(a) AS a, id(r) AS r, id(b) AS b, id(s) AS s, id(c) AS c
abbrev pub query_8 : Query
query_8 = query_of (match_paths false ((path_of None (node_place (Some (named "a")) [] no_properties) (((hop false (detail (Some (named "r")) [] None no_properties) true), (node_place (Some (named "b")) [] no_properties)) ∷ ((hop true (detail (Some (named "s")) [] None no_properties) false), (node_place (Some (named "c")) [] no_properties)) ∷ [])) ∷ []) None ∷ return_rows (project false None ((column (codes "id(a)") (call (named "id") false false (expression (var "a") no_expressions)) (Some (named "a"))) ∷ (column (codes "id(r)") (call (named "id") false false (expression (var "r") no_expressions)) (Some (named "r"))) ∷ (column (codes "id(b)") (call (named "id") false false (expression (var "b") no_expressions)) (Some (named "b"))) ∷ (column (codes "id(s)") (call (named "id") false false (expression (var "s") no_expressions)) (Some (named "s"))) ∷ (column (codes "id(c)") (call (named "id") false false (expression (var "c") no_expressions)) (Some (named "c"))) ∷ []) [] None None) ∷ [])

-- two parallel relationships from both ends
abbrev pub Example_5 : Type 0
Example_5 =
    told (ask [] 1000 query_7 no_entries ∷ ask [] 1000 query_8 no_entries ∷ [])
    ≡ (answered [] [] 4 ∷ answered ((codes "a") ∷ (codes "r") ∷ (codes "b") ∷ (codes "s") ∷ (codes "c") ∷ []) (((integer (pos 0)) ∷ (integer (pos 0)) ∷ (integer (pos 1)) ∷ (integer (pos 1)) ∷ (integer (pos 0)) ∷ []) ∷ ((integer (pos 0)) ∷ (integer (pos 1)) ∷ (integer (pos 1)) ∷ (integer (pos 0)) ∷ (integer (pos 0)) ∷ []) ∷ []) 12 ∷ [])

-- CREATE (:P {x:1}), (:P {x:null})
abbrev pub query_9 : Query
query_9 = query_of (create ((path_of None (node_place None ((codes "P") ∷ []) (given (pair (named "x") (number 1) no_pairs))) []) ∷ (path_of None (node_place None ((codes "P") ∷ []) (given (pair (named "x") (literal null) no_pairs))) []) ∷ []) ∷ [])

-- MATCH (n:P) WHERE n.x <> 2 RETURN id(n)
abbrev pub query_10 : Query
query_10 = query_of (match_paths false ((path_of None (node_place (Some (named "n")) ((codes "P") ∷ []) no_properties) []) ∷ []) (Some (chain (dot (var "n") "x") (operand NotEqual (number 2) no_operands))) ∷ return_rows (project false None ((column (codes "id(n)") (call (named "id") false false (expression (var "n") no_expressions)) None) ∷ []) [] None None) ∷ [])

-- WHERE drops null
abbrev pub Example_6 : Type 0
Example_6 =
    told (ask [] 1000 query_9 no_entries ∷ ask [] 1000 query_10 no_entries ∷ [])
    ≡ (answered [] [] 2 ∷ answered ((codes "id(n)") ∷ []) (((integer (pos 0)) ∷ []) ∷ []) 5 ∷ [])

-- CREATE (a:A)-[:K]->(b)-[:K]->(c:C)
abbrev pub query_11 : Query
query_11 = query_of (create ((path_of None (node_place (Some (named "a")) ((codes "A") ∷ []) no_properties) (((hop false (detail None ((true, (named "K")) ∷ []) None no_properties) true), (node_place (Some (named "b")) [] no_properties)) ∷ ((hop false (detail None ((true, (named "K")) ∷ []) None no_properties) true), (node_place (Some (named "c")) ((codes "C") ∷ []) no_properties)) ∷ [])) ∷ []) ∷ [])

-- MATCH p = (x)-[rs:K*1..2]->(y:C) RETURN rs, p, x
abbrev pub query_12 : Query
query_12 = query_of (match_paths false ((path_of (Some (named "p")) (node_place (Some (named "x")) [] no_properties) (((hop false (detail (Some (named "rs")) ((true, (named "K")) ∷ []) (between 1 2) no_properties) true), (node_place (Some (named "y")) ((codes "C") ∷ []) no_properties)) ∷ [])) ∷ []) None ∷ return_rows (project false None ((column (codes "rs") (var "rs") None) ∷ (column (codes "p") (var "p") None) ∷ (column (codes "x") (var "x") None) ∷ []) [] None None) ∷ [])

-- a walk leftwards, a range bound from left to right, a named path
abbrev pub Example_7 : Type 0
Example_7 =
    told (ask [] 1000 query_11 no_entries ∷ ask [] 1000 query_12 no_entries ∷ [])
    ≡ (answered [] [] 5 ∷ answered ((codes "rs") ∷ (codes "p") ∷ (codes "x") ∷ []) (((list (values_of ((relationship 1) ∷ []))) ∷ (path (1 ∷ 1 ∷ 2 ∷ [])) ∷ (node 1) ∷ []) ∷ ((list (values_of ((relationship 0) ∷ (relationship 1) ∷ []))) ∷ (path (0 ∷ 0 ∷ 1 ∷ 1 ∷ 2 ∷ [])) ∷ (node 0) ∷ []) ∷ []) 7 ∷ [])

-- CREATE (a:A)-[:K]->(b)-[:L]->(a)
abbrev pub query_13 : Query
query_13 = query_of (create ((path_of None (node_place (Some (named "a")) ((codes "A") ∷ []) no_properties) (((hop false (detail None ((true, (named "K")) ∷ []) None no_properties) true), (node_place (Some (named "b")) [] no_properties)) ∷ ((hop false (detail None ((true, (named "L")) ∷ []) None no_properties) true), (node_place (Some (named "a")) [] no_properties)) ∷ [])) ∷ []) ∷ [])

-- MATCH (a:A)<-[r:K|L]->(b) RETURN id(r)
abbrev pub query_14 : Query
query_14 = query_of (match_paths false ((path_of None (node_place (Some (named "a")) ((codes "A") ∷ []) no_properties) (((hop true (detail (Some (named "r")) ((true, (named "K")) ∷ (false, (named "L")) ∷ []) None no_properties) true), (node_place (Some (named "b")) [] no_properties)) ∷ [])) ∷ []) None ∷ return_rows (project false None ((column (codes "id(r)") (call (named "id") false false (expression (var "r") no_expressions)) None) ∷ []) [] None None) ∷ [])

-- two heads are as none; several types
abbrev pub Example_8 : Type 0
Example_8 =
    told (ask [] 1000 query_13 no_entries ∷ ask [] 1000 query_14 no_entries ∷ [])
    ≡ (answered [] [] 4 ∷ answered ((codes "id(r)") ∷ []) (((integer (pos 0)) ∷ []) ∷ ((integer (pos 1)) ∷ []) ∷ []) 7 ∷ [])

-- CREATE (a:A)-[:K]->(b:B)
abbrev pub query_15 : Query
query_15 = query_of (create ((path_of None (node_place (Some (named "a")) ((codes "A") ∷ []) no_properties) (((hop false (detail None ((true, (named "K")) ∷ []) None no_properties) true), (node_place (Some (named "b")) ((codes "B") ∷ []) no_properties)) ∷ [])) ∷ []) ∷ [])

-- MATCH (b:B) MATCH (a)-[r]->(b) RETURN id(a), id(r)
abbrev pub query_16 : Query
query_16 = query_of (match_paths false ((path_of None (node_place (Some (named "b")) ((codes "B") ∷ []) no_properties) []) ∷ []) None ∷ match_paths false ((path_of None (node_place (Some (named "a")) [] no_properties) (((hop false (detail (Some (named "r")) [] None no_properties) true), (node_place (Some (named "b")) [] no_properties)) ∷ [])) ∷ []) None ∷ return_rows (project false None ((column (codes "id(a)") (call (named "id") false false (expression (var "a") no_expressions)) None) ∷ (column (codes "id(r)") (call (named "id") false false (expression (var "r") no_expressions)) None) ∷ []) [] None None) ∷ [])

-- OPTIONAL MATCH (n:N) OPTIONAL MATCH (m)-[r]->(n) RETURN n, m, r
abbrev pub query_17 : Query
query_17 = query_of (match_paths true ((path_of None (node_place (Some (named "n")) ((codes "N") ∷ []) no_properties) []) ∷ []) None ∷ match_paths true ((path_of None (node_place (Some (named "m")) [] no_properties) (((hop false (detail (Some (named "r")) [] None no_properties) true), (node_place (Some (named "n")) [] no_properties)) ∷ [])) ∷ []) None ∷ return_rows (project false None ((column (codes "n") (var "n") None) ∷ (column (codes "m") (var "m") None) ∷ (column (codes "r") (var "r") None) ∷ []) [] None None) ∷ [])

-- OPTIONAL MATCH (n:N) OPTIONAL MATCH (n)-[r]->(m) RETURN n, m
abbrev pub query_18 : Query
query_18 = query_of (match_paths true ((path_of None (node_place (Some (named "n")) ((codes "N") ∷ []) no_properties) []) ∷ []) None ∷ match_paths true ((path_of None (node_place (Some (named "n")) [] no_properties) (((hop false (detail (Some (named "r")) [] None no_properties) true), (node_place (Some (named "m")) [] no_properties)) ∷ [])) ∷ []) None ∷ return_rows (project false None ((column (codes "n") (var "n") None) ∷ (column (codes "m") (var "m") None) ∷ []) [] None None) ∷ [])

-- MATCH (a:A) OPTIONAL MATCH (n:N) OPTIONAL MATCH (a)-[r]->(n) RETURN r
abbrev pub query_19 : Query
query_19 = query_of (match_paths false ((path_of None (node_place (Some (named "a")) ((codes "A") ∷ []) no_properties) []) ∷ []) None ∷ match_paths true ((path_of None (node_place (Some (named "n")) ((codes "N") ∷ []) no_properties) []) ∷ []) None ∷ match_paths true ((path_of None (node_place (Some (named "a")) [] no_properties) (((hop false (detail (Some (named "r")) [] None no_properties) true), (node_place (Some (named "n")) [] no_properties)) ∷ [])) ∷ []) None ∷ return_rows (project false None ((column (codes "r") (var "r") None) ∷ []) [] None None) ∷ [])

-- a bound variable anchors; a variable bound to null fits nothing
abbrev pub Example_9 : Type 0
Example_9 =
    told (ask [] 1000 query_15 no_entries ∷ ask [] 1000 query_16 no_entries ∷ ask [] 1000 query_17 no_entries ∷ ask [] 1000 query_18 no_entries ∷ ask [] 1000 query_19 no_entries ∷ [])
    ≡ (answered [] [] 3 ∷ answered ((codes "id(a)") ∷ (codes "id(r)") ∷ []) (((integer (pos 0)) ∷ (integer (pos 0)) ∷ []) ∷ []) 6 ∷ answered ((codes "n") ∷ (codes "m") ∷ (codes "r") ∷ []) ((null ∷ null ∷ null ∷ []) ∷ []) 1 ∷ answered ((codes "n") ∷ (codes "m") ∷ []) ((null ∷ null ∷ []) ∷ []) 1 ∷ answered ((codes "r") ∷ []) ((null ∷ []) ∷ []) 5 ∷ [])

-- CREATE (:B), (:B), (a:A)-[:K]->(b:B)
abbrev pub query_20 : Query
query_20 = query_of (create ((path_of None (node_place None ((codes "B") ∷ []) no_properties) []) ∷ (path_of None (node_place None ((codes "B") ∷ []) no_properties) []) ∷ (path_of None (node_place (Some (named "a")) ((codes "A") ∷ []) no_properties) (((hop false (detail None ((true, (named "K")) ∷ []) None no_properties) true), (node_place (Some (named "b")) ((codes "B") ∷ []) no_properties)) ∷ [])) ∷ []) ∷ [])

-- MATCH (a:A), (b:B)<-[r]-(a) RETURN id(b)
abbrev pub query_21 : Query
query_21 = query_of (match_paths false ((path_of None (node_place (Some (named "a")) ((codes "A") ∷ []) no_properties) []) ∷ (path_of None (node_place (Some (named "b")) ((codes "B") ∷ []) no_properties) (((hop true (detail (Some (named "r")) [] None no_properties) false), (node_place (Some (named "a")) [] no_properties)) ∷ [])) ∷ []) None ∷ return_rows (project false None ((column (codes "id(b)") (call (named "id") false false (expression (var "b") no_expressions)) None) ∷ []) [] None None) ∷ [])

-- an earlier path of the clause anchors a later one
abbrev pub Example_10 : Type 0
Example_10 =
    told (ask [] 1000 query_20 no_entries ∷ ask [] 1000 query_21 no_entries ∷ [])
    ≡ (answered [] [] 5 ∷ answered ((codes "id(b)") ∷ []) (((integer (pos 3)) ∷ []) ∷ []) 5 ∷ [])

-- CREATE (a:A)-[:K]->(b)-[:K]->(c)
abbrev pub query_22 : Query
query_22 = query_of (create ((path_of None (node_place (Some (named "a")) ((codes "A") ∷ []) no_properties) (((hop false (detail None ((true, (named "K")) ∷ []) None no_properties) true), (node_place (Some (named "b")) [] no_properties)) ∷ ((hop false (detail None ((true, (named "K")) ∷ []) None no_properties) true), (node_place (Some (named "c")) [] no_properties)) ∷ [])) ∷ []) ∷ [])

-- MATCH (a:A)-[*3..2]->(b) RETURN b
abbrev pub query_23 : Query
query_23 = query_of (match_paths false ((path_of None (node_place (Some (named "a")) ((codes "A") ∷ []) no_properties) (((hop false (detail None [] (between 3 2) no_properties) true), (node_place (Some (named "b")) [] no_properties)) ∷ [])) ∷ []) None ∷ return_rows (project false None ((column (codes "b") (var "b") None) ∷ []) [] None None) ∷ [])

-- a lower bound above the upper one
abbrev pub Example_11 : Type 0
Example_11 =
    told (ask [] 1000 query_22 no_entries ∷ ask [] 1000 query_23 no_entries ∷ [])
    ≡ (answered [] [] 5 ∷ answered ((codes "b") ∷ []) [] 3 ∷ [])

-- CREATE (:P {x:1}), (:P {x:0})
abbrev pub query_24 : Query
query_24 = query_of (create ((path_of None (node_place None ((codes "P") ∷ []) (given (pair (named "x") (number 1) no_pairs))) []) ∷ (path_of None (node_place None ((codes "P") ∷ []) (given (pair (named "x") (number 0) no_pairs))) []) ∷ []) ∷ [])

-- MATCH (n:P) WHERE n.x = 1 AND 1 / n.x = 1 RETURN id(n)
abbrev pub query_25 : Query
query_25 = query_of (match_paths false ((path_of None (node_place (Some (named "n")) ((codes "P") ∷ []) no_properties) []) ∷ []) (Some (chain (chain (dot (var "n") "x") (operand Equal (number 1) no_operands)) (operand And (chain (chain (number 1) (operand Divide (dot (var "n") "x") no_operands)) (operand Equal (number 1) no_operands)) no_operands))) ∷ return_rows (project false None ((column (codes "id(n)") (call (named "id") false false (expression (var "n") no_expressions)) None) ∷ []) [] None None) ∷ [])

-- MATCH (n:P) WHERE 1 / n.x = 1 AND n.x = 1 RETURN id(n)
abbrev pub query_26 : Query
query_26 = query_of (match_paths false ((path_of None (node_place (Some (named "n")) ((codes "P") ∷ []) no_properties) []) ∷ []) (Some (chain (chain (chain (number 1) (operand Divide (dot (var "n") "x") no_operands)) (operand Equal (number 1) no_operands)) (operand And (chain (dot (var "n") "x") (operand Equal (number 1) no_operands)) no_operands))) ∷ return_rows (project false None ((column (codes "id(n)") (call (named "id") false false (expression (var "n") no_expressions)) None) ∷ []) [] None None) ∷ [])

-- MATCH (n:P) WHERE n.x RETURN id(n)
abbrev pub query_27 : Query
query_27 = query_of (match_paths false ((path_of None (node_place (Some (named "n")) ((codes "P") ∷ []) no_properties) []) ∷ []) (Some (dot (var "n") "x")) ∷ return_rows (project false None ((column (codes "id(n)") (call (named "id") false false (expression (var "n") no_expressions)) None) ∷ []) [] None None) ∷ [])

-- WHERE: conjuncts in order, and a fault
abbrev pub Example_12 : Type 0
Example_12 =
    told (ask [] 1000 query_24 no_entries ∷ ask [] 1000 query_25 no_entries ∷ ask [] 1000 query_26 no_entries ∷ ask [] 1000 query_27 no_entries ∷ [])
    ≡ (answered [] [] 2 ∷ answered ((codes "id(n)") ∷ []) (((integer (pos 0)) ∷ []) ∷ []) 5 ∷ refused DivisionByZero ∷ refused TypeFault ∷ [])

-- UNWIND [1,0] AS d MATCH (n {x: 1 / d}) RETURN n
abbrev pub query_28 : Query
query_28 = query_of (unwind (list_literal (expression (number 1) (expression (number 0) no_expressions))) (named "d") ∷ match_paths false ((path_of None (node_place (Some (named "n")) [] (given (pair (named "x") (chain (number 1) (operand Divide (var "d") no_operands)) no_pairs))) []) ∷ []) None ∷ return_rows (project false None ((column (codes "n") (var "n") None) ∷ []) [] None None) ∷ [])

-- a fault of a later row before the steps of an earlier one
abbrev pub Example_13 : Type 0
Example_13 =
    told (ask [] 2 query_28 no_entries ∷ [])
    ≡ (refused DivisionByZero ∷ [])

-- UNWIND [1] AS n MATCH (n) RETURN n
abbrev pub query_29 : Query
query_29 = query_of (unwind (list_literal (expression (number 1) no_expressions)) (named "n") ∷ match_paths false ((path_of None (node_place (Some (named "n")) [] no_properties) []) ∷ []) None ∷ return_rows (project false None ((column (codes "n") (var "n") None) ∷ []) [] None None) ∷ [])

-- CREATE (a:A) WITH a DELETE a WITH a MATCH (a) RETURN a
abbrev pub query_30 : Query
query_30 = query_of (create ((path_of None (node_place (Some (named "a")) ((codes "A") ∷ []) no_properties) []) ∷ []) ∷ with_rows (project false None ((column (codes "a") (var "a") None) ∷ []) [] None None) None ∷ delete false ((var "a") ∷ []) ∷ with_rows (project false None ((column (codes "a") (var "a") None) ∷ []) [] None None) None ∷ match_paths false ((path_of None (node_place (Some (named "a")) [] no_properties) []) ∷ []) None ∷ return_rows (project false None ((column (codes "a") (var "a") None) ∷ []) [] None None) ∷ [])

-- a node variable that is neither node nor null; one that is deleted
abbrev pub Example_14 : Type 0
Example_14 =
    told (ask [] 1000 query_29 no_entries ∷ ask [] 1000 query_30 no_entries ∷ [])
    ≡ (refused TypeFault ∷ refused DeletedEntity ∷ [])

abbrev pub ExamplesOfPatterns : Type 0
ExamplesOfPatterns = Example_1 × Example_2 × Example_3 × Example_4 × Example_5 × Example_6 × Example_7 × Example_8 × Example_9 × Example_10 × Example_11 × Example_12 × Example_13 × Example_14
