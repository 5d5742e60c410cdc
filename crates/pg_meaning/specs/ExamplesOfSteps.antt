-- Small instances of each clause's step, of what a query means, of its faults and of the one answer: of each one that holds and one that doesn't.
use Rattle.std.proofs.Common.{◌≡◌, ◌≢◌, ℕ, length, bytes_eq, ◌<◌, ◌+◌, ◌^◌, ◌-◌, ◌==◌, Bool, true, false, ◌⊎◌, inl, inr, cond, List, [], ◌∷◌, ◌++◌, map, Option, Some, None, Result, Ok, Err, codes, pos, refl, sym, ap, subst, ◌∙◌, arith}
use Rattle.std.specs.List.{AllZip}
use Rattle.pg_meaning.specs.AnswerLaws.{same_ok}
use Rattle.pg_meaning.specs.Entries.{value_at}
use Rattle.pg_meaning.specs.Expressions.{evaluate}
use Rattle.pg_meaning.specs.ExampleTrees.{named, var, number, node_place, detail, hop, path_of, column, project, query_of}
use Rattle.pg_meaning.specs.ExamplesOfFits.{not_true, bare_node, pair_graph, alone, at_zero, alone_fits, only_zero}
use Rattle.pg_meaning.specs.Graph.{Graph, Node, empty_graph, add_node, node_at, remove_elements}
use Rattle.pg_meaning.specs.GraphLaws.{empty_is_graph, add_node_keeps_graph}
use Rattle.pg_meaning.specs.Lists.{IsIn}
use Rattle.pg_meaning.specs.Meaning.{given_of, Step, MatchRow, UnwindRow, Passing, Projects, CreateRow, CreateFaults, MergeMatched, MergeMade, MergeFaults, IsTrailOf, new_places, all_placed, Means, MayFault, Ordered}
use Rattle.pg_meaning.specs.Names.{Names}
use Rattle.pg_meaning.specs.Order.{is_equivalent}
use Rattle.pg_meaning.specs.Patterns.{Assignment, Fits, node_name, bind_match}
use Rattle.pg_meaning.specs.Projections.{Projected, projected, skipped, limited}
use Rattle.pg_meaning.specs.Queries.{Outcome}
use Rattle.pg_meaning.specs.Reading.{test_bound}
use Rattle.pg_meaning.specs.Rows.{Row}
use Rattle.pg_meaning.specs.Scopes.{Column}
use Rattle.pg_meaning.specs.Tree.{Expression, literal, list_literal, chain, operand, no_operands, no_expressions, expression, PathPattern, Properties, no_properties, given, pair, no_pairs, SetItem, Clause, match_paths, unwind, create, merge, set_items, set_property, remove_items, remove_property, delete, with_rows, return_rows, Query}
use Rattle.pg_meaning.specs.Turns.{Given}
use Rattle.pg_meaning.specs.Updates.{given_properties, doomed_nodes, doomed_relationships, test_unconnected}
use Rattle.pg_meaning.specs.Value.{Entries, Value, null, integer, node, no_entries, entry}
use Rattle.pg_meaning.specs.Walks.{bound_value}
use Rattle.pg_meaning.specs.declared.fault.Fault.{Fault}
use Rattle.pg_meaning.specs.declared.fault.Fault.TheVariants.{NodeStillConnected, DivisionByZero, ElementQuota, IdsExhausted, MergeNull}
use Rattle.pg_meaning.specs.declared.operators.Operator.TheVariants.{Divide}

abbrev pub within : Names → Given
within scope = given_of no_entries 10 scope

abbrev pub one : Value
one = integer (pos 1)

abbrev pub row_a : Value → Row
row_a v = (codes "a", v) ∷ []

-- no rows are not a row and more
no_rows : {X : Type 0} (x : X) (xs : List X) → [] ≡ x ∷ xs → ⊥
no_rows x xs e = cc

no_rows_joined : {X : Type 0} (first others : List X) → [] ≡ first ++ others → first ≡ []
no_rows_joined [] others e = refl
no_rows_joined (x ∷ xs) others e = absurd (no_rows x (xs ++ others) e)

-- ---- MATCH (a:L)

abbrev pub InstancesOfMatch : Type 0
InstancesOfMatch =
    Step (within []) (match_paths false (alone ∷ []) None) pair_graph ([] ∷ []) pair_graph (row_a (node 0) ∷ [])
    × (Step (within []) (match_paths false (alone ∷ []) None) pair_graph ([] ∷ []) pair_graph [] → ⊥)

match_row : MatchRow (within []) pair_graph false (alone ∷ []) None [] (row_a (node 0) ∷ [])
match_row = record {
  live = (refl, tt);
  evaluated = tt;
  decided = λ a f. (true, refl);
  found = at_zero ∷ [];
  matches = record { each = (record { fits = alone_fits; passes = refl }, tt); every = λ a m. only_zero a m.fits; once = (tt, tt) };
  bound = refl;
}

some_found : (found : List Assignment) → IsIn at_zero found → [] ≡ map (λ a. bind_match pair_graph (alone ∷ []) a []) found → ⊥
some_found [] i e = absurd i
some_found (a ∷ as_) i e = absurd (no_rows _ _ e)

pub instances_of_match : InstancesOfMatch
instances_of_match = (
  (refl, (row_a (node 0) ∷ [], [], match_row, refl, refl)),
  (λ s. missing s.1.0 s.1.2 (no_rows_joined s.1.0 s.1.1 s.1.4)),
)
  where
    missing : (first : List Row) → MatchRow (within []) pair_graph false (alone ∷ []) None [] first → first ≡ [] → ⊥
    missing first m e = some_found m.found (m.matches.every at_zero (record { fits = alone_fits; passes = refl })) (sym e ∙ m.bound)

-- ---- UNWIND [1] AS a

abbrev pub one_item : Expression
one_item = list_literal (expression (number 1) no_expressions)

abbrev pub InstancesOfUnwind : Type 0
InstancesOfUnwind =
    Step (within []) (unwind one_item (named "a")) empty_graph ([] ∷ []) empty_graph (row_a one ∷ [])
    × (Step (within []) (unwind one_item (named "a")) empty_graph ([] ∷ []) empty_graph [] → ⊥)

pub instances_of_unwind : InstancesOfUnwind
instances_of_unwind = (
  (refl, (row_a one ∷ [], [], (one ∷ [], refl, refl), refl, refl)),
  (λ s. dropped s.1.0 s.1.2 (no_rows_joined s.1.0 s.1.1 s.1.4)),
)
  where
    dropped : (first : List Row) → UnwindRow (within []) empty_graph one_item (named "a") [] first → first ≡ [] → ⊥
    dropped first u e = no_rows _ _ (sym e ∙ subst (λ vs. first ≡ map (λ v. row_a v) vs) (sym (same_ok (one ∷ []) u.0 u.1)) u.2)

-- ---- WITH and RETURN 1 AS a

abbrev pub column_a : Column
column_a = record { name = codes "a"; value = number 1 }

abbrev pub InstancesOfReturn : Type 0
InstancesOfReturn =
    Step (within []) (return_rows (project false None (column (codes "1") (number 1) (Some (named "a")) ∷ []) [] None None)) empty_graph ([] ∷ []) empty_graph (row_a one ∷ [])
    × (Step (within []) (return_rows (project false None (column (codes "1") (number 1) (Some (named "a")) ∷ []) [] None None)) empty_graph ([] ∷ []) empty_graph [] → ⊥)
    × Step (within []) (with_rows (project false None (column (codes "1") (number 1) (Some (named "a")) ∷ []) [] None None) None) empty_graph ([] ∷ []) empty_graph (row_a one ∷ [])
    × (Step (within []) (with_rows (project false None (column (codes "1") (number 1) (Some (named "a")) ∷ []) [] None None) None) empty_graph ([] ∷ []) empty_graph [] → ⊥)

abbrev row_of_one : Projected
row_of_one = record { columns = row_a one; earlier = [] }

projects_one : Projects (within []) empty_graph (column_a ∷ []) (project false None (column (codes "1") (number 1) (Some (named "a")) ∷ []) [] None None) None ([] ∷ []) (row_a one ∷ [])
projects_one = record {
  skip = None;
  skip_given = refl;
  limit = None;
  limit_given = refl;
  made = row_of_one ∷ [];
  items = (refl, tt);
  kept = row_of_one ∷ [];
  distinct = refl;
  sorted = row_of_one ∷ [];
  order = refl;
  passing = row_of_one ∷ [];
  condition = (true, [], refl, refl, refl);
  shown = refl;
}

some_passing : (made passing : List Projected) (R : Row → Projected → Type 0) → AllZip R ([] ∷ []) made → Passing (within []) empty_graph None made passing → [] ≡ map (λ (p : Projected). p.columns) passing → ⊥
some_passing [] passing R z p e = absurd z
some_passing (m ∷ ms) passing R z p e =
    no_rows _ _ (e ∙ ap (map (λ (q : Projected). q.columns)) (p.4 ∙ ap (λ b. cond b (m ∷ p.1) p.1) (sym (same_ok true p.0 p.2))))

none_projected : Projects (within []) empty_graph (column_a ∷ []) (project false None (column (codes "1") (number 1) (Some (named "a")) ∷ []) [] None None) None ([] ∷ []) [] → ⊥
none_projected p =
    let unskipped = subst (λ k. Passing (within []) empty_graph None (limited p.limit (skipped k p.sorted)) p.passing) (sym (same_ok None p.skip p.skip_given)) p.condition in
    let unlimited = subst (λ k. Passing (within []) empty_graph None (limited k p.sorted) p.passing) (sym (same_ok None p.limit p.limit_given)) unskipped in
    some_passing p.made p.passing (λ row r. projected no_entries empty_graph false (column_a ∷ []) row ≡ Ok r) p.items (subst (λ ps. Passing (within []) empty_graph None ps p.passing) (p.order ∙ p.distinct) unlimited) p.shown

pub instances_of_return : InstancesOfReturn
instances_of_return = ((refl, projects_one), (λ s. none_projected s.1), (refl, projects_one), (λ s. none_projected s.1))

-- ---- CREATE (:L) and MERGE (:L)

abbrev pub unnamed : PathPattern
unnamed = path_of None (node_place None (codes "L" ∷ []) no_properties) []

abbrev pub created_graph : Graph
created_graph = add_node (codes "L" ∷ []) no_entries empty_graph

abbrev pub InstancesOfCreate : Type 0
InstancesOfCreate =
    Step (within []) (create (unnamed ∷ [])) empty_graph ([] ∷ []) created_graph ([] ∷ [])
    × (Step (within []) (create (unnamed ∷ [])) empty_graph ([] ∷ []) created_graph [] → ⊥)
    × (Step (within []) (create (unnamed ∷ [])) empty_graph ([] ∷ []) empty_graph ([] ∷ []) → ⊥)
    × Step (within []) (merge unnamed []) empty_graph ([] ∷ []) created_graph ([] ∷ [])
    × (Step (within []) (merge unnamed []) empty_graph ([] ∷ []) created_graph [] → ⊥)

create_row : CreateRow (within []) (unnamed ∷ []) empty_graph [] created_graph ([] ∷ [])
create_row = record {
  live = (refl, tt);
  assignment = at_zero;
  shape = ((refl, refl, tt), tt);
  bound = (inl refl, tt);
  repeated = (tt, tt);
  nodes = ((record { labels = codes "L" ∷ []; properties = no_entries }, omega arith, omega arith, refl, refl, refl), tt);
  node_ids = (tt, tt);
  next_node = refl;
  relationships = tt;
  relationship_ids = tt;
  next_relationship = refl;
  old_nodes = λ n h. absurd (none_below n h);
  old_relationships = λ r h. refl;
  graph_again = add_node_keeps_graph (codes "L" ∷ []) no_entries empty_graph refl empty_is_graph;
  room = omega arith;
  node_counter = omega arith;
  relationship_counter = omega arith;
  extended = refl;
}
  where
    none_below : (n : ℕ) → n < 0 → ⊥
    none_below n h = omega arith

nothing_fits : (a : Assignment) → Fits (unnamed ∷ []) no_entries empty_graph [] a → ⊥
nothing_fits [] f = absurd f.each
nothing_fits (t ∷ ts) f = absent f.each.0.3.node f.each.0.3.present
  where
    absent : (e : Node) → ◌≡◌ {A = Option Node} None (Some e) → ⊥
    absent e h = cc

no_row_made : (after : Graph) (first : List Row) → CreateRow (within []) (unnamed ∷ []) empty_graph [] after first → first ≡ [] → ⊥
no_row_made after first c e = no_rows _ _ (sym e ∙ c.extended)

-- the node that a trail of one place stands for is new, so the counter moves
no_node_made : (first : List Row) → CreateRow (within []) (unnamed ∷ []) empty_graph [] empty_graph first → ⊥
no_node_made first c = by_shape c.assignment c.shape c.next_node
  where
    by_place : (p : List ℕ) → length p ≡ 1 → ◌≡◌ {A = ℕ} 0 (0 + length (new_places [] (all_placed (unnamed ∷ []) (record { nodes = p; bonds = [] } ∷ [])))) → ⊥
    by_place [] l e = apart l
      where
        apart : ◌≡◌ {A = ℕ} 0 1 → ⊥
        apart h = omega arith
    by_place (n ∷ ns) l e = apart e
      where
        apart : ◌≡◌ {A = ℕ} 0 1 → ⊥
        apart h = omega arith

    by_shape : (a : Assignment) → AllZip IsTrailOf (unnamed ∷ []) a → ◌≡◌ {A = ℕ} 0 (0 + length (new_places [] (all_placed (unnamed ∷ []) a))) → ⊥
    by_shape [] z e = absurd z
    by_shape (t ∷ []) z e = by_place t.nodes z.0.0 e
    by_shape (t ∷ u ∷ ts) z e = absurd z.1

pub instances_of_create : InstancesOfCreate
instances_of_create = (
  (created_graph, [] ∷ [], [], create_row, (refl, refl), refl),
  (λ s. no_row_made s.0 s.1 s.3 (no_rows_joined s.1 s.2 s.5)),
  (λ s. no_node_made s.1 (subst (λ g. CreateRow (within []) (unnamed ∷ []) empty_graph [] g s.1) (sym s.4.0) s.3)),
  (
    created_graph,
    [] ∷ [],
    [],
    record { tested = record { live = (refl, tt); evaluated = tt; not_null = tt }; one = inr (record { none = nothing_fits; made = created_graph; creation = create_row; items_run = (created_graph, refl, refl) }) },
    (refl, refl),
    refl,
  ),
  (λ s. merged_none s.0 s.1 (s.3).one (no_rows_joined s.1 s.2 s.5)),
)
  where
    none_found : (found : List Assignment) → found ≢ [] → [] ≡ map (λ a. bind_match empty_graph (unnamed ∷ []) a []) found → ⊥
    none_found [] some e = some refl
    none_found (a ∷ as_) some e = no_rows _ _ e

    merged_none : (after : Graph) (first : List Row) → MergeMatched (within []) unnamed [] empty_graph [] after first ⊎ MergeMade (within []) unnamed [] empty_graph [] after first → first ≡ [] → ⊥
    merged_none after first (inl m) e = none_found m.found m.some (sym e ∙ m.rows)
    merged_none after first (inr m) e = no_row_made m.made first m.creation e

-- ---- faults of CREATE and MERGE

-- (a)-[:K]->(b)
abbrev pub between_both : PathPattern
between_both = path_of None (node_place (Some (named "a")) [] no_properties) ((hop false (detail None ((true, named "K") ∷ []) None no_properties) true, node_place (Some (named "b")) [] no_properties) ∷ [])

-- no id is left for a node
abbrev pub spent_graph : Graph
spent_graph = record pair_graph { next_node = 2 ^ 63 }

abbrev pub both_rows : Row
both_rows = (codes "b", node 1) ∷ (codes "a", node 0) ∷ []

-- (n {k: null})
abbrev pub with_null : PathPattern
with_null = path_of None (node_place (Some (named "n")) [] (given (pair (named "k") (literal null) no_pairs))) []

-- ON CREATE SET n.x = 1 / 0
abbrev pub faulty_part : List (Bool × List SetItem)
faulty_part = (true, set_property (named "n") (named "x") (chain (number 1) (operand Divide (number 0) no_operands)) ∷ []) ∷ []

-- ids of nodes are wanted only where a node is made; where a property is null nothing is made
abbrev pub InstancesOfFaults : Type 0
InstancesOfFaults =
    (CreateFaults (within (codes "b" ∷ codes "a" ∷ [])) (between_both ∷ []) spent_graph both_rows IdsExhausted → ⊥)
    × MergeFaults (within []) with_null faulty_part empty_graph [] MergeNull
    × (MergeFaults (within []) with_null faulty_part empty_graph [] DivisionByZero → ⊥)

no_id_is_wanted : CreateFaults (within (codes "b" ∷ codes "a" ∷ [])) (between_both ∷ []) spent_graph both_rows IdsExhausted → ⊥
no_id_is_wanted (inl (n, inl e, h)) = fine (subst (λ m. test_bound false spent_graph (bound_value (node_name m) both_rows) ≡ Err IdsExhausted) e h)
  where
    fine : ◌≡◌ {A = Result (Unit {0}) Fault} (Ok tt) (Err IdsExhausted) → ⊥
    fine e = cc
no_id_is_wanted (inl (n, inr (inl e), h)) = fine (subst (λ m. test_bound false spent_graph (bound_value (node_name m) both_rows) ≡ Err IdsExhausted) e h)
  where
    fine : ◌≡◌ {A = Result (Unit {0}) Fault} (Ok tt) (Err IdsExhausted) → ⊥
    fine e = cc
no_id_is_wanted (inl (n, inr (inr i), h)) = absurd i
no_id_is_wanted (inr (inl (ps, i, h))) = fine (subst (λ p. given_properties no_entries spent_graph both_rows p ≡ Err IdsExhausted) (bare ps i) h)
  where
    bare : (ps : Properties) → IsIn ps (no_properties ∷ no_properties ∷ no_properties ∷ []) → ps ≡ no_properties
    bare ps (inl e) = e
    bare ps (inr (inl e)) = e
    bare ps (inr (inr (inl e))) = e
    bare ps (inr (inr (inr i))) = absurd i

    fine : ◌≡◌ {A = Result Entries Fault} (Ok no_entries) (Err IdsExhausted) → ⊥
    fine e = cc
no_id_is_wanted (inr (inr (inl h))) = other h.0
  where
    other : IdsExhausted ≡ ElementQuota → ⊥
    other e = cc
no_id_is_wanted (inr (inr (inr (inl h)))) = none h.1.0
  where
    none : 0 < 0 → ⊥
    none h = omega arith
no_id_is_wanted (inr (inr (inr (inr h)))) = past h.1.1
  where
    past : 2 ^ 63 - 1 < 1 + 1 → ⊥
    past h = omega arith

only_null : MergeFaults (within []) with_null faulty_part empty_graph [] DivisionByZero → ⊥
only_null (inl (n, inl e, h)) = fine (subst (λ m. test_bound false empty_graph (bound_value (node_name m) []) ≡ Err DivisionByZero) e h)
  where
    fine : ◌≡◌ {A = Result (Unit {0}) Fault} (Ok tt) (Err DivisionByZero) → ⊥
    fine e = cc
only_null (inl (n, inr i, h)) = absurd i
only_null (inr (inl (p, inl e, h))) = fine (subst (λ q. evaluate [] no_entries empty_graph q.1 ≡ Err DivisionByZero) e h)
  where
    fine : ◌≡◌ {A = Result Value Fault} (Ok null) (Err DivisionByZero) → ⊥
    fine e = cc
only_null (inr (inl (p, inr i, h))) = absurd i
only_null (inr (inr (inl h))) = other h.0
  where
    other : DivisionByZero ≡ MergeNull → ⊥
    other e = cc
only_null (inr (inr (inr (inl h)))) = h.0.not_null.0 refl
only_null (inr (inr (inr (inr h)))) = h.0.not_null.0 refl

pub instances_of_faults : InstancesOfFaults
instances_of_faults = (no_id_is_wanted, inr (inr (inl (refl, (codes "k", literal null), inl refl, refl))), only_null)

-- ---- queries

abbrev pub return_one : Query
return_one = query_of (return_rows (project false None (column (codes "1") (number 1) (Some (named "a")) ∷ []) [] None None) ∷ [])

abbrev pub return_fault : Query
return_fault = query_of (return_rows (project false None (column (codes "1 / 0") (chain (number 1) (operand Divide (number 0) no_operands)) None ∷ []) [] None None) ∷ [])

abbrev pub create_one : Query
create_one = query_of (create (unnamed ∷ []) ∷ [])

abbrev pub outcome_of_one : ℕ → Result Outcome Fault
outcome_of_one steps = Ok (record { columns = codes "a" ∷ []; rows = (one ∷ []) ∷ []; graph = empty_graph; steps = steps })

-- a row is charged one step
abbrev pub InstancesOfQueries : Type 0
InstancesOfQueries =
    Means return_one no_entries 10 empty_graph (codes "a" ∷ []) ((one ∷ []) ∷ []) empty_graph
    × (Means return_one no_entries 10 empty_graph (codes "1" ∷ []) ((one ∷ []) ∷ []) empty_graph → ⊥)
    × MayFault return_fault no_entries 10 empty_graph DivisionByZero
    × ((f : Fault) → MayFault create_one no_entries 10 empty_graph f → ⊥)
    × Ordered [] return_one no_entries empty_graph 10 10 (outcome_of_one 1)
    × (Ordered [] return_one no_entries empty_graph 10 10 (outcome_of_one 2) → ⊥)

creates_without_fault : (f : Fault) → CreateFaults (within []) (unnamed ∷ []) empty_graph [] f → ⊥
creates_without_fault f (inl (n, inl e, h)) = fine (subst (λ m. test_bound false empty_graph (bound_value (node_name m) []) ≡ Err f) e h)
  where
    fine : ◌≡◌ {A = Result (Unit {0}) Fault} (Ok tt) (Err f) → ⊥
    fine e = cc
creates_without_fault f (inl (n, inr i, h)) = absurd i
creates_without_fault f (inr (inl (ps, inl e, h))) = fine (subst (λ p. given_properties no_entries empty_graph [] p ≡ Err f) e h)
  where
    fine : ◌≡◌ {A = Result Entries Fault} (Ok no_entries) (Err f) → ⊥
    fine e = cc
creates_without_fault f (inr (inl (ps, inr i, h))) = absurd i
creates_without_fault f (inr (inr (inl h))) = too_many h.1.1
  where
    too_many : 10 < 1 → ⊥
    too_many h = omega arith
creates_without_fault f (inr (inr (inr (inl h)))) = past h.1.1
  where
    past : 2 ^ 63 - 1 < 1 → ⊥
    past h = omega arith
creates_without_fault f (inr (inr (inr (inr h)))) = past h.1.1
  where
    past : 2 ^ 63 - 1 < 0 → ⊥
    past h = omega arith

pub instances_of_queries : InstancesOfQueries
instances_of_queries = (
  record { results = row_a one ∷ []; steps = (empty_graph, row_a one ∷ [], (refl, projects_one), (refl, refl)); named = refl; shown = refl; live = (refl, tt) },
  (λ m. not_true (ap (λ names. is_named names) m.named)),
  inl (inr (inr (inl ([], inl refl, (record { name = codes "1 / 0"; value = chain (number 1) (operand Divide (number 0) no_operands) }, inl refl, refl))))),
  (λ f h. no_fault f h),
  refl,
  (λ e. not_true (ap steps_are_two (sym e))),
)
  where
    is_named : List (List ℕ) → Bool
    is_named names = elim names [ [] ↦ false | n ∷ ns ↦ bytes_eq n (codes "a") ]

    steps_are_two : Result Outcome Fault → Bool
    steps_are_two r = elim r [ Ok o ↦ o.steps == 2 | Err f ↦ false ]

    no_fault : (f : Fault) → MayFault create_one no_entries 10 empty_graph f → ⊥
    no_fault f (inl (inl h)) = creates_without_fault f h
    no_fault f (inl (inr h)) = absurd h.3
    no_fault f (inr h) = absurd h.3.2
