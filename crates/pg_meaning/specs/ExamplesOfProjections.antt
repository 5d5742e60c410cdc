-- Worked examples of UNWIND, WITH and RETURN.
use Rattle.std.specs.Prelude.{true, false, [], ◌∷◌, Some, None, codes, pos, neg_ℤ, ◌≡◌}
use Rattle.pg_meaning.specs.ExampleTrees.{named, var, number, string, dot, node_place, path_of, column, sort_by, project, query_of, ask, told, answered, refused}
use Rattle.pg_meaning.specs.Tree.{literal, parameter, list_literal, call, chain, signs, no_expressions, expression, no_operands, operand, no_properties, match_paths, unwind, create, delete, with_rows, return_rows, Query}
use Rattle.pg_meaning.specs.Value.{null, boolean, integer, text, list, no_entries, entry, values_of}
use Rattle.pg_meaning.specs.declared.fault.Fault.TheVariants.{TypeFault, Overflow, DivisionByZero, DeletedEntity, NegativeCount}
use Rattle.pg_meaning.specs.declared.operators.Operator.TheVariants.{Less, Greater, Minus, Divide}
use Rattle.pg_meaning.specs.declared.operators.Sort.TheVariants.{Desc}

-- MATCH (n:Nobody) RETURN count(*), sum(n.x), collect(n.x), max(n.x)
abbrev pub query_1 : Query
query_1 = query_of (match_paths false ((path_of None (node_place (Some (named "n")) ((codes "Nobody") ∷ []) no_properties) []) ∷ []) None ∷ return_rows (project false None ((column (codes "count(*)") (call (named "count") true false no_expressions) None) ∷ (column (codes "sum(n.x)") (call (named "sum") false false (expression (dot (var "n") "x") no_expressions)) None) ∷ (column (codes "collect(n.x)") (call (named "collect") false false (expression (dot (var "n") "x") no_expressions)) None) ∷ (column (codes "max(n.x)") (call (named "max") false false (expression (dot (var "n") "x") no_expressions)) None) ∷ []) [] None None) ∷ [])

-- aggregates over nothing
abbrev pub Example_1 : Type 0
Example_1 =
    told (ask [] 1000 query_1 no_entries ∷ [])
    ≡ (answered ((codes "count(*)") ∷ (codes "sum(n.x)") ∷ (codes "collect(n.x)") ∷ (codes "max(n.x)") ∷ []) (((integer (pos 0)) ∷ (integer (pos 0)) ∷ (list (values_of [])) ∷ null ∷ []) ∷ []) 0 ∷ [])

-- UNWIND [1,null,'a',true,[1]] AS x RETURN x ORDER BY x
abbrev pub query_2 : Query
query_2 = query_of (unwind (list_literal (expression (number 1) (expression (literal null) (expression (string "a") (expression (literal (boolean true)) (expression (list_literal (expression (number 1) no_expressions)) no_expressions)))))) (named "x") ∷ return_rows (project false None ((column (codes "x") (var "x") None) ∷ []) ((sort_by (var "x") None) ∷ []) None None) ∷ [])

-- the total order over mixed kinds
abbrev pub Example_2 : Type 0
Example_2 =
    told (ask [] 1000 query_2 no_entries ∷ [])
    ≡ (answered ((codes "x") ∷ []) (((list (values_of ((integer (pos 1)) ∷ []))) ∷ []) ∷ ((text (codes "a")) ∷ []) ∷ ((boolean true) ∷ []) ∷ ((integer (pos 1)) ∷ []) ∷ (null ∷ []) ∷ []) 10 ∷ [])

-- UNWIND [1,1,2] AS x RETURN x
abbrev pub query_3 : Query
query_3 = query_of (unwind (list_literal (expression (number 1) (expression (number 1) (expression (number 2) no_expressions)))) (named "x") ∷ return_rows (project false None ((column (codes "x") (var "x") None) ∷ []) [] None None) ∷ [])

-- UNWIND [1,1,2] AS x RETURN DISTINCT x
abbrev pub query_4 : Query
query_4 = query_of (unwind (list_literal (expression (number 1) (expression (number 1) (expression (number 2) no_expressions)))) (named "x") ∷ return_rows (project true None ((column (codes "x") (var "x") None) ∷ []) [] None None) ∷ [])

-- UNWIND [3,1,3] AS x RETURN x, count(*) AS c ORDER BY x
abbrev pub query_5 : Query
query_5 = query_of (unwind (list_literal (expression (number 3) (expression (number 1) (expression (number 3) no_expressions)))) (named "x") ∷ return_rows (project false None ((column (codes "x") (var "x") None) ∷ (column (codes "count(*)") (call (named "count") true false no_expressions) (Some (named "c"))) ∷ []) ((sort_by (var "x") None) ∷ []) None None) ∷ [])

-- duplicate rows, distinct rows, groups
abbrev pub Example_3 : Type 0
Example_3 =
    told (ask [] 1000 query_3 no_entries ∷ ask [] 1000 query_4 no_entries ∷ ask [] 1000 query_5 no_entries ∷ [])
    ≡ (answered ((codes "x") ∷ []) (((integer (pos 1)) ∷ []) ∷ ((integer (pos 1)) ∷ []) ∷ ((integer (pos 2)) ∷ []) ∷ []) 6 ∷ answered ((codes "x") ∷ []) (((integer (pos 1)) ∷ []) ∷ ((integer (pos 2)) ∷ []) ∷ []) 6 ∷ answered ((codes "x") ∷ (codes "c") ∷ []) (((integer (pos 1)) ∷ (integer (pos 1)) ∷ []) ∷ ((integer (pos 3)) ∷ (integer (pos 2)) ∷ []) ∷ []) 6 ∷ [])

-- UNWIND [3,1,2] AS x WITH x ORDER BY x DESC LIMIT 2 RETURN collect(x) AS c
abbrev pub query_6 : Query
query_6 = query_of (unwind (list_literal (expression (number 3) (expression (number 1) (expression (number 2) no_expressions)))) (named "x") ∷ with_rows (project false None ((column (codes "x") (var "x") None) ∷ []) ((sort_by (var "x") (Some Desc)) ∷ []) None (Some (number 2))) None ∷ return_rows (project false None ((column (codes "collect(x)") (call (named "collect") false false (expression (var "x") no_expressions)) (Some (named "c"))) ∷ []) [] None None) ∷ [])

-- UNWIND [1] AS x RETURN x SKIP -1
abbrev pub query_7 : Query
query_7 = query_of (unwind (list_literal (expression (number 1) no_expressions)) (named "x") ∷ return_rows (project false None ((column (codes "x") (var "x") None) ∷ []) [] (Some (signs (true ∷ []) (number 1))) None) ∷ [])

-- UNWIND ['a'] AS x RETURN sum(x)
abbrev pub query_8 : Query
query_8 = query_of (unwind (list_literal (expression (string "a") no_expressions)) (named "x") ∷ return_rows (project false None ((column (codes "sum(x)") (call (named "sum") false false (expression (var "x") no_expressions)) None) ∷ []) [] None None) ∷ [])

-- a sort with a limit, a negative count, a sum of texts
abbrev pub Example_4 : Type 0
Example_4 =
    told (ask [] 1000 query_6 no_entries ∷ ask [] 1000 query_7 no_entries ∷ ask [] 1000 query_8 no_entries ∷ [])
    ≡ (answered ((codes "c") ∷ []) (((list (values_of ((integer (pos 3)) ∷ (integer (pos 2)) ∷ []))) ∷ []) ∷ []) 8 ∷ refused NegativeCount ∷ refused TypeFault ∷ [])

-- UNWIND [5] AS a WITH a, 3 AS b RETURN a - b AS x
abbrev pub query_9 : Query
query_9 = query_of (unwind (list_literal (expression (number 5) no_expressions)) (named "a") ∷ with_rows (project false None ((column (codes "a") (var "a") None) ∷ (column (codes "3") (number 3) (Some (named "b"))) ∷ []) [] None None) None ∷ return_rows (project false None ((column (codes "a - b") (chain (var "a") (operand Minus (var "b") no_operands)) (Some (named "x"))) ∷ []) [] None None) ∷ [])

-- a pattern inside an expression is arithmetic
abbrev pub Example_5 : Type 0
Example_5 =
    told (ask [] 1000 query_9 no_entries ∷ [])
    ≡ (answered ((codes "x") ∷ []) (((integer (pos 2)) ∷ []) ∷ []) 3 ∷ [])

-- UNWIND [[1,9],[2,5]] AS p WITH size(p) AS s, p AS p UNWIND p AS a WITH a, 0 - a AS b RETURN a AS b, b AS a ORDER BY a
abbrev pub query_10 : Query
query_10 = query_of (unwind (list_literal (expression (list_literal (expression (number 1) (expression (number 9) no_expressions))) (expression (list_literal (expression (number 2) (expression (number 5) no_expressions))) no_expressions))) (named "p") ∷ with_rows (project false None ((column (codes "size(p)") (call (named "size") false false (expression (var "p") no_expressions)) (Some (named "s"))) ∷ (column (codes "p") (var "p") (Some (named "p"))) ∷ []) [] None None) None ∷ unwind (var "p") (named "a") ∷ with_rows (project false None ((column (codes "a") (var "a") None) ∷ (column (codes "0 - a") (chain (number 0) (operand Minus (var "a") no_operands)) (Some (named "b"))) ∷ []) [] None None) None ∷ return_rows (project false None ((column (codes "a") (var "a") (Some (named "b"))) ∷ (column (codes "b") (var "b") (Some (named "a"))) ∷ []) ((sort_by (var "a") None) ∷ []) None None) ∷ [])

-- a sort that equals an item stands for it
abbrev pub Example_6 : Type 0
Example_6 =
    told (ask [] 1000 query_10 no_entries ∷ [])
    ≡ (answered ((codes "b") ∷ (codes "a") ∷ []) (((integer (pos 1)) ∷ (integer (neg_ℤ (pos 1))) ∷ []) ∷ ((integer (pos 2)) ∷ (integer (neg_ℤ (pos 2))) ∷ []) ∷ ((integer (pos 5)) ∷ (integer (neg_ℤ (pos 5))) ∷ []) ∷ ((integer (pos 9)) ∷ (integer (neg_ℤ (pos 9))) ∷ []) ∷ []) 16 ∷ [])

-- UNWIND [3,1,2] AS x WITH 0 - x AS y ORDER BY x WHERE x > 1 RETURN y
abbrev pub query_11 : Query
query_11 = query_of (unwind (list_literal (expression (number 3) (expression (number 1) (expression (number 2) no_expressions)))) (named "x") ∷ with_rows (project false None ((column (codes "0 - x") (chain (number 0) (operand Minus (var "x") no_operands)) (Some (named "y"))) ∷ []) ((sort_by (var "x") None) ∷ []) None None) (Some (chain (var "x") (operand Greater (number 1) no_operands))) ∷ return_rows (project false None ((column (codes "y") (var "y") None) ∷ []) [] None None) ∷ [])

-- earlier variables in sorts and in WHERE
abbrev pub Example_7 : Type 0
Example_7 =
    told (ask [] 1000 query_11 no_entries ∷ [])
    ≡ (answered ((codes "y") ∷ []) (((integer (neg_ℤ (pos 2))) ∷ []) ∷ ((integer (neg_ℤ (pos 3))) ∷ []) ∷ []) 8 ∷ [])

-- UNWIND [1] AS b UNWIND [2] AS a RETURN *
abbrev pub query_12 : Query
query_12 = query_of (unwind (list_literal (expression (number 1) no_expressions)) (named "b") ∷ unwind (list_literal (expression (number 2) no_expressions)) (named "a") ∷ return_rows (project false (Some 39) [] [] None None) ∷ [])

-- UNWIND [] AS x WITH count(*) AS c, sum(x) AS s RETURN c, s
abbrev pub query_13 : Query
query_13 = query_of (unwind (list_literal no_expressions) (named "x") ∷ with_rows (project false None ((column (codes "count(*)") (call (named "count") true false no_expressions) (Some (named "c"))) ∷ (column (codes "sum(x)") (call (named "sum") false false (expression (var "x") no_expressions)) (Some (named "s"))) ∷ []) [] None None) None ∷ return_rows (project false None ((column (codes "c") (var "c") None) ∷ (column (codes "s") (var "s") None) ∷ []) [] None None) ∷ [])

-- UNWIND [] AS x RETURN x, count(*)
abbrev pub query_14 : Query
query_14 = query_of (unwind (list_literal no_expressions) (named "x") ∷ return_rows (project false None ((column (codes "x") (var "x") None) ∷ (column (codes "count(*)") (call (named "count") true false no_expressions) None) ∷ []) [] None None) ∷ [])

-- the star in byte order; aggregates alone over no row; groups over no row
abbrev pub Example_8 : Type 0
Example_8 =
    told (ask [] 1000 query_12 no_entries ∷ ask [] 1000 query_13 no_entries ∷ ask [] 1000 query_14 no_entries ∷ [])
    ≡ (answered ((codes "a") ∷ (codes "b") ∷ []) (((integer (pos 2)) ∷ (integer (pos 1)) ∷ []) ∷ []) 3 ∷ answered ((codes "c") ∷ (codes "s") ∷ []) (((integer (pos 0)) ∷ (integer (pos 0)) ∷ []) ∷ []) 1 ∷ answered ((codes "x") ∷ (codes "count(*)") ∷ []) [] 0 ∷ [])

-- UNWIND [2,1,null,2,3] AS x RETURN count(x) AS a, count(DISTINCT x) AS b, collect(DISTINCT x) AS c, min(x) AS d, max(x) AS e, sum(DISTINCT x) AS f
abbrev pub query_15 : Query
query_15 = query_of (unwind (list_literal (expression (number 2) (expression (number 1) (expression (literal null) (expression (number 2) (expression (number 3) no_expressions)))))) (named "x") ∷ return_rows (project false None ((column (codes "count(x)") (call (named "count") false false (expression (var "x") no_expressions)) (Some (named "a"))) ∷ (column (codes "count(DISTINCT x)") (call (named "count") false true (expression (var "x") no_expressions)) (Some (named "b"))) ∷ (column (codes "collect(DISTINCT x)") (call (named "collect") false true (expression (var "x") no_expressions)) (Some (named "c"))) ∷ (column (codes "min(x)") (call (named "min") false false (expression (var "x") no_expressions)) (Some (named "d"))) ∷ (column (codes "max(x)") (call (named "max") false false (expression (var "x") no_expressions)) (Some (named "e"))) ∷ (column (codes "sum(DISTINCT x)") (call (named "sum") false true (expression (var "x") no_expressions)) (Some (named "f"))) ∷ []) [] None None) ∷ [])

-- DISTINCT inside aggregates, least and greatest
abbrev pub Example_9 : Type 0
Example_9 =
    told (ask [] 1000 query_15 no_entries ∷ [])
    ≡ (answered ((codes "a") ∷ (codes "b") ∷ (codes "c") ∷ (codes "d") ∷ (codes "e") ∷ (codes "f") ∷ []) (((integer (pos 4)) ∷ (integer (pos 3)) ∷ (list (values_of ((integer (pos 2)) ∷ (integer (pos 1)) ∷ (integer (pos 3)) ∷ []))) ∷ (integer (pos 1)) ∷ (integer (pos 3)) ∷ (integer (pos 6)) ∷ []) ∷ []) 10 ∷ [])

-- UNWIND [[1,1],[2],[1,2],[3],[1]] AS x RETURN x ORDER BY size(x) DESC, 0
abbrev pub query_16 : Query
query_16 = query_of (unwind (list_literal (expression (list_literal (expression (number 1) (expression (number 1) no_expressions))) (expression (list_literal (expression (number 2) no_expressions)) (expression (list_literal (expression (number 1) (expression (number 2) no_expressions))) (expression (list_literal (expression (number 3) no_expressions)) (expression (list_literal (expression (number 1) no_expressions)) no_expressions)))))) (named "x") ∷ return_rows (project false None ((column (codes "x") (var "x") None) ∷ []) ((sort_by (call (named "size") false false (expression (var "x") no_expressions)) (Some Desc)) ∷ (sort_by (number 0) None) ∷ []) None None) ∷ [])

-- a stable sort in two directions
abbrev pub Example_10 : Type 0
Example_10 =
    told (ask [] 1000 query_16 no_entries ∷ [])
    ≡ (answered ((codes "x") ∷ []) (((list (values_of ((integer (pos 1)) ∷ (integer (pos 1)) ∷ []))) ∷ []) ∷ ((list (values_of ((integer (pos 1)) ∷ (integer (pos 2)) ∷ []))) ∷ []) ∷ ((list (values_of ((integer (pos 2)) ∷ []))) ∷ []) ∷ ((list (values_of ((integer (pos 3)) ∷ []))) ∷ []) ∷ ((list (values_of ((integer (pos 1)) ∷ []))) ∷ []) ∷ []) 10 ∷ [])

-- UNWIND [1,2,3,4] AS x RETURN x SKIP 1 LIMIT 2
abbrev pub query_17 : Query
query_17 = query_of (unwind (list_literal (expression (number 1) (expression (number 2) (expression (number 3) (expression (number 4) no_expressions))))) (named "x") ∷ return_rows (project false None ((column (codes "x") (var "x") None) ∷ []) [] (Some (number 1)) (Some (number 2))) ∷ [])

-- UNWIND [] AS x RETURN x LIMIT 'a'
abbrev pub query_18 : Query
query_18 = query_of (unwind (list_literal no_expressions) (named "x") ∷ return_rows (project false None ((column (codes "x") (var "x") None) ∷ []) [] None (Some (string "a"))) ∷ [])

-- UNWIND [1] AS x RETURN x SKIP -1 LIMIT 'a'
abbrev pub query_19 : Query
query_19 = query_of (unwind (list_literal (expression (number 1) no_expressions)) (named "x") ∷ return_rows (project false None ((column (codes "x") (var "x") None) ∷ []) [] (Some (signs (true ∷ []) (number 1))) (Some (string "a"))) ∷ [])

-- RETURN 1 AS x LIMIT 0
abbrev pub query_20 : Query
query_20 = query_of (return_rows (project false None ((column (codes "1") (number 1) (Some (named "x"))) ∷ []) [] None (Some (number 0))) ∷ [])

-- SKIP before LIMIT, counts with no row
abbrev pub Example_11 : Type 0
Example_11 =
    told (ask [] 1000 query_17 no_entries ∷ ask [] 1000 query_18 no_entries ∷ ask [] 1000 query_19 no_entries ∷ ask [] 1000 query_20 no_entries ∷ [])
    ≡ (answered ((codes "x") ∷ []) (((integer (pos 2)) ∷ []) ∷ ((integer (pos 3)) ∷ []) ∷ []) 8 ∷ refused TypeFault ∷ refused NegativeCount ∷ answered ((codes "x") ∷ []) [] 1 ∷ [])

-- UNWIND [9223372036854775807, 1] AS x RETURN sum(x)
abbrev pub query_21 : Query
query_21 = query_of (unwind (list_literal (expression (number 9223372036854775807) (expression (number 1) no_expressions))) (named "x") ∷ return_rows (project false None ((column (codes "sum(x)") (call (named "sum") false false (expression (var "x") no_expressions)) None) ∷ []) [] None None) ∷ [])

-- UNWIND ['a'] AS x RETURN sum(x), 1 / 0
abbrev pub query_22 : Query
query_22 = query_of (unwind (list_literal (expression (string "a") no_expressions)) (named "x") ∷ return_rows (project false None ((column (codes "sum(x)") (call (named "sum") false false (expression (var "x") no_expressions)) None) ∷ (column (codes "1 / 0") (chain (number 1) (operand Divide (number 0) no_operands)) None) ∷ []) [] None None) ∷ [])

-- UNWIND [1] AS x RETURN sum(x), 1 / 0
abbrev pub query_23 : Query
query_23 = query_of (unwind (list_literal (expression (number 1) no_expressions)) (named "x") ∷ return_rows (project false None ((column (codes "sum(x)") (call (named "sum") false false (expression (var "x") no_expressions)) None) ∷ (column (codes "1 / 0") (chain (number 1) (operand Divide (number 0) no_operands)) None) ∷ []) [] None None) ∷ [])

-- a sum that leaves 64 bits; a fault to the right of a sum
abbrev pub Example_12 : Type 0
Example_12 =
    told (ask [] 1000 query_21 no_entries ∷ ask [] 1000 query_22 no_entries ∷ ask [] 1000 query_23 no_entries ∷ [])
    ≡ (refused Overflow ∷ refused TypeFault ∷ refused DivisionByZero ∷ [])

-- RETURN $p
abbrev pub query_24 : Query
query_24 = query_of (return_rows (project false None ((column (codes "$p") (parameter (named "p")) None) ∷ []) [] None None) ∷ [])

-- a parameter
abbrev pub Example_13 : Type 0
Example_13 =
    told (ask [] 1000 query_24 (entry (codes "p") (integer (neg_ℤ (pos 9223372036854775808))) no_entries) ∷ [])
    ≡ (answered ((codes "$p") ∷ []) (((integer (neg_ℤ (pos 9223372036854775808))) ∷ []) ∷ []) 1 ∷ [])

-- CREATE (a:A) WITH a DELETE a RETURN count(a) AS c
abbrev pub query_25 : Query
query_25 = query_of (create ((path_of None (node_place (Some (named "a")) ((codes "A") ∷ []) no_properties) []) ∷ []) ∷ with_rows (project false None ((column (codes "a") (var "a") None) ∷ []) [] None None) None ∷ delete false ((var "a") ∷ []) ∷ return_rows (project false None ((column (codes "count(a)") (call (named "count") false false (expression (var "a") no_expressions)) (Some (named "c"))) ∷ []) [] None None) ∷ [])

-- CREATE (a:A) WITH a DELETE a WITH [a] AS l RETURN l
abbrev pub query_26 : Query
query_26 = query_of (create ((path_of None (node_place (Some (named "a")) ((codes "A") ∷ []) no_properties) []) ∷ []) ∷ with_rows (project false None ((column (codes "a") (var "a") None) ∷ []) [] None None) None ∷ delete false ((var "a") ∷ []) ∷ with_rows (project false None ((column (codes "[a]") (list_literal (expression (var "a") no_expressions)) (Some (named "l"))) ∷ []) [] None None) None ∷ return_rows (project false None ((column (codes "l") (var "l") None) ∷ []) [] None None) ∷ [])

-- CREATE (a:A) WITH a DELETE a WITH a AS b RETURN b.x
abbrev pub query_27 : Query
query_27 = query_of (create ((path_of None (node_place (Some (named "a")) ((codes "A") ∷ []) no_properties) []) ∷ []) ∷ with_rows (project false None ((column (codes "a") (var "a") None) ∷ []) [] None None) None ∷ delete false ((var "a") ∷ []) ∷ with_rows (project false None ((column (codes "a") (var "a") (Some (named "b"))) ∷ []) [] None None) None ∷ return_rows (project false None ((column (codes "b.x") (dot (var "b") "x") None) ∷ []) [] None None) ∷ [])

-- a deleted element compared, counted and passed on, but not put out
abbrev pub Example_14 : Type 0
Example_14 =
    told (ask [] 1000 query_25 no_entries ∷ ask [] 1000 query_26 no_entries ∷ ask [] 1000 query_27 no_entries ∷ [])
    ≡ (answered ((codes "c") ∷ []) (((integer (pos 1)) ∷ []) ∷ []) 4 ∷ refused DeletedEntity ∷ refused DeletedEntity ∷ [])

-- UNWIND null AS x RETURN x
abbrev pub query_28 : Query
query_28 = query_of (unwind (literal null) (named "x") ∷ return_rows (project false None ((column (codes "x") (var "x") None) ∷ []) [] None None) ∷ [])

-- UNWIND 1 AS x RETURN x
abbrev pub query_29 : Query
query_29 = query_of (unwind (number 1) (named "x") ∷ return_rows (project false None ((column (codes "x") (var "x") None) ∷ []) [] None None) ∷ [])

-- null gives no row, and what is no list is a fault
abbrev pub Example_15 : Type 0
Example_15 =
    told (ask [] 1000 query_28 no_entries ∷ ask [] 1000 query_29 no_entries ∷ [])
    ≡ (answered ((codes "x") ∷ []) [] 0 ∷ refused TypeFault ∷ [])

-- UNWIND [1,2] AS x WITH 0 - x AS x ORDER BY x WHERE x < 0 RETURN x
abbrev pub query_30 : Query
query_30 = query_of (unwind (list_literal (expression (number 1) (expression (number 2) no_expressions))) (named "x") ∷ with_rows (project false None ((column (codes "0 - x") (chain (number 0) (operand Minus (var "x") no_operands)) (Some (named "x"))) ∷ []) ((sort_by (var "x") None) ∷ []) None None) (Some (chain (var "x") (operand Less (number 0) no_operands))) ∷ return_rows (project false None ((column (codes "x") (var "x") None) ∷ []) [] None None) ∷ [])

-- a column hides the earlier variable of its name
abbrev pub Example_16 : Type 0
Example_16 =
    told (ask [] 1000 query_30 no_entries ∷ [])
    ≡ (answered ((codes "x") ∷ []) (((integer (neg_ℤ (pos 2))) ∷ []) ∷ ((integer (neg_ℤ (pos 1))) ∷ []) ∷ []) 6 ∷ [])

abbrev pub ExamplesOfProjections : Type 0
ExamplesOfProjections = Example_1 × Example_2 × Example_3 × Example_4 × Example_5 × Example_6 × Example_7 × Example_8 × Example_9 × Example_10 × Example_11 × Example_12 × Example_13 × Example_14 × Example_15 × Example_16
