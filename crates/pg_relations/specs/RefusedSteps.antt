-- What no step gives: rows out of order, doubles, groups that lack or stand twice, rows that WHERE leaves out, and what MATCH, CREATE and MERGE may not find, make or leave.
use Rattle.std.specs.Prelude.{◌≡◌, ℕ, ◌^◌, true, false, List, [], ◌∷◌, Option, Some, None, codes, pos}
use Rattle.pg_meaning.specs.ExampleTrees.{named, var, number, node_place, detail, hop, sort_by, project, column, path_of}
use Rattle.pg_meaning.specs.ExamplesOfFits.{bare_node, first_anchor, second_place, pair_graph, alone, at_zero}
use Rattle.pg_meaning.specs.ExamplesOfSteps.{within, one, row_a, unnamed, with_null, spent_graph, between_both, both_rows}
use Rattle.pg_meaning.specs.Graph.{Graph, empty_graph, add_node}
use Rattle.pg_meaning.specs.Listings.{IsListing}
use Rattle.pg_meaning.specs.Meaning.{given_of, Step, StepFaults, MatchRow, Arranged, OneOfEach, AreGroups, Passing, CreateRow, CreateFaults, MergeMatched, MergeMade, MergeRow, MergeFaults}
use Rattle.pg_meaning.specs.Names.{Names}
use Rattle.pg_meaning.specs.Projections.{Projected}
use Rattle.pg_meaning.specs.Rows.{Row}
use Rattle.pg_meaning.specs.Scopes.{Column}
use Rattle.pg_meaning.specs.Tree.{SortItem, Projection, Expression, literal, call, no_expressions, chain, operand, no_operands, PathPattern, given, pair, no_pairs, no_properties, create, match_paths, with_rows, return_rows}
use Rattle.pg_meaning.specs.Value.{Value, boolean, integer, node, Entries, no_entries, entry}
use Rattle.pg_meaning.specs.declared.operators.Operator.TheVariants.{Divide}
use Rattle.pg_meaning.specs.declared.fault.Fault.{Fault}
use Rattle.pg_meaning.specs.declared.fault.Fault.TheVariants.{ElementQuota, IdsExhausted}

-- 1 / 0
abbrev pub faulty : Expression
faulty = chain (number 1) (operand Divide (number 0) no_operands)

-- ---- WITH and RETURN

abbrev pub of : ℕ → Projected
of n = record { columns = row_a (integer (pos n)); earlier = [] }

abbrev pub by_a : List Column
by_a = record { name = codes "a"; value = var "a" } ∷ []

abbrev pub rising_a : List SortItem
rising_a = sort_by (var "a") None ∷ []

abbrev pub key : ℕ → List Value
key n = integer (pos n) ∷ []

-- count(*)
abbrev pub by_count : List Column
by_count = record { name = codes "c"; value = call (named "count") true false no_expressions } ∷ []

-- RETURN 1 AS a SKIP 1, and LIMIT 0
abbrev pub one_cut : Option Expression → Option Expression → Projection
one_cut skip limit = project false None (column (codes "1") (number 1) (Some (named "a")) ∷ []) [] skip limit

-- rows that lack or come from nowhere, a key from nowhere, no group of nothing, a row that WHERE takes, a WHERE with a fault, a row past SKIP or LIMIT, a fault of such a row
abbrev pub RefusedParts : Type 0
RefusedParts =
    (Arranged (within []) empty_graph by_a rising_a (of 1 ∷ []) [] → ⊥)
    × (Arranged (within []) empty_graph by_a rising_a (of 1 ∷ []) (of 2 ∷ []) → ⊥)
    × (OneOfEach (of 1 ∷ []) (of 1 ∷ of 2 ∷ []) → ⊥)
    × (AreGroups by_a ((key 1, row_a (integer (pos 1))) ∷ []) (key 1 ∷ key 2 ∷ []) → ⊥)
    × (AreGroups by_count [] [] → ⊥)
    × (Passing (within []) empty_graph (Some (literal (boolean true))) (of 1 ∷ []) [] → ⊥)
    × ((passing : List Projected) → Passing (within []) empty_graph (Some faulty) (of 1 ∷ []) passing → ⊥)
    × (Step (within []) (return_rows (one_cut (Some (number 1)) None)) empty_graph ([] ∷ []) empty_graph (row_a one ∷ []) → ⊥)
    × (Step (within []) (return_rows (one_cut None (Some (number 0)))) empty_graph ([] ∷ []) empty_graph (row_a one ∷ []) → ⊥)
    × ((f : Fault) → StepFaults (within []) (with_rows (one_cut None (Some (number 0))) (Some faulty)) empty_graph ([] ∷ []) f → ⊥)

abbrev pub RefusedProjections : Type 0
RefusedProjections =
    (Arranged (within []) empty_graph by_a rising_a (of 1 ∷ of 2 ∷ []) (of 2 ∷ of 1 ∷ []) → ⊥)
    × (OneOfEach (of 1 ∷ of 1 ∷ []) (of 1 ∷ of 1 ∷ []) → ⊥)
    × (OneOfEach (of 1 ∷ []) [] → ⊥)
    × (AreGroups by_a ((key 1, row_a (integer (pos 1))) ∷ []) (key 1 ∷ key 1 ∷ []) → ⊥)
    × (AreGroups by_a ((key 1, row_a (integer (pos 1))) ∷ []) [] → ⊥)
    × (Passing (within []) empty_graph (Some (literal (boolean false))) (of 1 ∷ []) (of 1 ∷ []) → ⊥)
    × ((results : List Row) → Step (within []) (return_rows (project false None (column (codes "1") (number 1) None ∷ []) [] None None)) pair_graph ([] ∷ []) empty_graph results → ⊥)
    × RefusedParts

-- ---- MATCH

-- (n {k: 1 / 0})
abbrev pub with_faulty : PathPattern
with_faulty = path_of None (node_place None [] (given (pair (named "k") faulty no_pairs))) []

-- a listing out of order, an OPTIONAL MATCH without its row, a graph that changes; a WHERE with a fault, a bound node that is gone, a property with a fault
abbrev pub RefusedMatches : Type 0
RefusedMatches =
    (IsListing (first_anchor ∷ []) [] (path_of None second_place [] ∷ []) no_entries pair_graph [] ((record { nodes = 1 ∷ []; bonds = [] } ∷ []) ∷ at_zero ∷ []) → ⊥)
    × (Step (within []) (match_paths true (alone ∷ []) None) empty_graph ([] ∷ []) empty_graph [] → ⊥)
    × ((results : List Row) → Step (within []) (match_paths false (alone ∷ []) None) pair_graph ([] ∷ []) empty_graph results → ⊥)
    × ((results : List Row) → MatchRow (within []) pair_graph false (alone ∷ []) (Some faulty) [] results → ⊥)
    × ((results : List Row) → MatchRow (within (codes "a" ∷ [])) pair_graph false (alone ∷ []) None (row_a (node 7)) results → ⊥)
    × ((results : List Row) → MatchRow (within []) empty_graph false (with_faulty ∷ []) None [] results → ⊥)

-- ---- CREATE

-- one node, made with some labels and properties
abbrev pub made_with : Names → Entries → Graph
made_with labels properties = add_node labels properties empty_graph

-- (0)-[0:K]->(1)-[1:K]->(0)
abbrev pub turned_graph : Graph
turned_graph = record pair_graph {
  relationships =
      (0, record { type = codes "K"; source = 0; target = 1; properties = no_entries }) ∷ (1, record { type = codes "K"; source = 1; target = 0; properties = no_entries }) ∷ [];
  next_relationship = 2;
}

-- (0)-[0:K]->(1), and once more
abbrev pub doubled_graph : Graph
doubled_graph = record pair_graph {
  relationships =
      (0, record { type = codes "K"; source = 0; target = 1; properties = no_entries }) ∷ (1, record { type = codes "K"; source = 0; target = 1; properties = no_entries }) ∷ [];
  next_relationship = 2;
}

-- (0)-[0:K]->(1), and one of another type
abbrev pub retyped_graph : Graph
retyped_graph = record pair_graph {
  relationships =
      (0, record { type = codes "K"; source = 0; target = 1; properties = no_entries }) ∷ (1, record { type = codes "L"; source = 0; target = 1; properties = no_entries }) ∷ [];
  next_relationship = 2;
}

-- (a)<-[:K]-(b)
abbrev pub back : PathPattern
back = path_of None (node_place (Some (named "a")) [] no_properties) ((hop true (detail None ((true, named "K") ∷ []) None no_properties) false, node_place (Some (named "b")) [] no_properties) ∷ [])

-- (x)-[:K]->(x)
abbrev pub looped : PathPattern
looped = path_of None (node_place (Some (named "x")) [] no_properties) ((hop false (detail None ((true, named "K") ∷ []) None no_properties) true, node_place (Some (named "x")) [] no_properties) ∷ [])

-- (0:L {k: 1}), (1)-[0:K]->(0)
abbrev pub unlooped_graph : Graph
unlooped_graph = record pair_graph { relationships = (0, record { type = codes "K"; source = 1; target = 0; properties = no_entries }) ∷ [] }

-- a relationship from the node of another variable, one to another node than the variable stands for, one that is not turned, one of another type
abbrev pub RefusedEnds : Type 0
RefusedEnds =
    ((results : List Row) → CreateRow (within (codes "b" ∷ codes "a" ∷ [])) (between_both ∷ []) pair_graph both_rows turned_graph results → ⊥)
    × ((graph : Graph) (results : List Row) → graph.next_node ≡ 1 → CreateRow (within []) (looped ∷ []) graph [] unlooped_graph results → ⊥)
    × ((results : List Row) → CreateRow (within (codes "b" ∷ codes "a" ∷ [])) (back ∷ []) pair_graph both_rows doubled_graph results → ⊥)
    × ((results : List Row) → CreateRow (within (codes "b" ∷ codes "a" ∷ [])) (between_both ∷ []) pair_graph both_rows retyped_graph results → ⊥)

-- (x:L)
abbrev pub named_node : PathPattern
named_node = path_of None (node_place (Some (named "x")) (codes "L" ∷ []) no_properties) []

-- no id is left for a relationship
abbrev pub unjoined_graph : Graph
unjoined_graph = record pair_graph { next_relationship = 2 ^ 63 }

-- a node past the next id
abbrev pub stray_graph : Graph
stray_graph = record (made_with (codes "L" ∷ []) no_entries) { nodes = (0, record { labels = codes "L" ∷ []; properties = no_entries }) ∷ (7, bare_node) ∷ [] }

-- another label, a property more, one id for two nodes, an older node that changes, an element past the quota, an id past the greatest, a row without its variable, a node that nothing made, the fault of ids for that of elements and the other way round
abbrev pub RefusedCreations : Type 0
RefusedCreations =
    (Step (within []) (create (unnamed ∷ [])) empty_graph ([] ∷ []) (made_with (codes "M" ∷ []) no_entries) ([] ∷ []) → ⊥)
    × (Step (within []) (create (unnamed ∷ [])) empty_graph ([] ∷ []) (made_with (codes "L" ∷ []) (entry (codes "k") (integer (pos 1)) no_entries)) ([] ∷ []) → ⊥)
    × (Step (within []) (create (unnamed ∷ unnamed ∷ [])) empty_graph ([] ∷ []) (add_node (codes "M" ∷ []) no_entries (made_with (codes "L" ∷ []) no_entries)) ([] ∷ []) → ⊥)
    × (Step (within []) (create (unnamed ∷ [])) (made_with (codes "L" ∷ []) no_entries) ([] ∷ []) (add_node (codes "L" ∷ []) no_entries (made_with (codes "M" ∷ []) no_entries)) ([] ∷ []) → ⊥)
    × ((after : Graph) (results : List Row) → CreateRow (given_of no_entries 0 []) (unnamed ∷ []) empty_graph [] after results → ⊥)
    × ((after : Graph) (results : List Row) → CreateRow (within []) (unnamed ∷ []) spent_graph [] after results → ⊥)
    × RefusedEnds
    × ((after : Graph) → CreateRow (within []) (named_node ∷ []) empty_graph [] after ([] ∷ []) → ⊥)
    × ((results : List Row) → CreateRow (within []) (unnamed ∷ []) empty_graph [] stray_graph results → ⊥)
    × (CreateFaults (given_of no_entries 0 []) (unnamed ∷ []) empty_graph [] IdsExhausted → ⊥)
    × (CreateFaults (within []) (unnamed ∷ []) spent_graph [] ElementQuota → ⊥)
    × (CreateFaults (within (codes "b" ∷ codes "a" ∷ [])) (between_both ∷ []) unjoined_graph both_rows ElementQuota → ⊥)

-- ---- MERGE

abbrev pub anything : PathPattern
anything = path_of None second_place []

-- made where something fits, some of what fits alone, a graph that changes without items, a null property, a fault of making before that of null, a bound node that is gone
abbrev pub RefusedMerges : Type 0
RefusedMerges =
    ((after : Graph) (results : List Row) → MergeMade (within []) alone [] pair_graph [] after results → ⊥)
    × ((after : Graph) (row : Row) → MergeMatched (within []) anything [] pair_graph [] after (row ∷ []) → ⊥)
    × ((results : List Row) → MergeMatched (within []) alone [] pair_graph [] empty_graph results → ⊥)
    × ((results : List Row) → MergeMade (within []) unnamed [] empty_graph [] empty_graph results → ⊥)
    × ((after : Graph) (results : List Row) → MergeRow (within []) with_null [] empty_graph [] after results → ⊥)
    × (MergeFaults (given_of no_entries 0 []) with_null [] empty_graph [] ElementQuota → ⊥)
    × ((after : Graph) (results : List Row) → MergeRow (within (codes "a" ∷ [])) alone [] pair_graph (row_a (node 7)) after results → ⊥)
