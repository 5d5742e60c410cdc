-- The rows of a query have a value for each column, and show no element that is gone.
use Rattle.std.proofs.Common.{◌≡◌, ℕ, zero, suc, Bool, true, false, cond, inl, inr, List, [], ◌∷◌, ◌++◌, map, flat_map, length, take, drop, Option, Some, None, Result, Ok, Err, refl, sym, ap, subst, ◌∙◌, true≢false}
use Rattle.std.proofs.lemmas.List.{length-map}
use Rattle.std.proofs.lemmas.List.Elements.{All-from_recursion, recursion_from_All}
use Rattle.std.proofs.lemmas.List.Sorted.{All-permutation}
use Rattle.std.specs.List.{AllByRecursion, AllZip, list_any}
use Rattle.pg_meaning.specs.Turns.{Given}
use Rattle.pg_meaning.specs.Answer.{◌>>=◌, ◌>>◌, each_answer}
use Rattle.pg_meaning.specs.AnswerLaws.{went_well, same_ok}
use Rattle.pg_meaning.specs.Graph.{Graph, has_node, has_relationship}
use Rattle.pg_meaning.specs.Lists.{IsIn}
use Rattle.pg_meaning.specs.ListsLaws.{all_weaker, all_at}
use Rattle.pg_meaning.specs.Meaning.{given_of, group_value, rows_with_key, Items, Groups, Distinct, Sorted, Passing, Projects, Steps, output_of}
use Rattle.pg_meaning.specs.Names.{Names}
use Rattle.pg_meaning.specs.Projections.{Projected, column_value, projected, skipped, limited}
use Rattle.pg_meaning.specs.Queries.{returns, output_rows, test_output, test_present, test_ids, test_items, test_entries}
use Rattle.pg_meaning.specs.Rows.{Row, values_in}
use Rattle.pg_meaning.specs.Scopes.{Column, is_aggregate, return_columns, column_names, scope_after, columns_from}
use Rattle.pg_meaning.specs.Tree.{Expression, SortItem, Projection, Clause, match_paths, unwind, create, merge, set_items, remove_items, delete, with_rows, return_rows}
use Rattle.pg_meaning.specs.Value.{Value, null, boolean, integer, text, list, mapping, node, relationship, path, Values, no_items, item, Entries, no_entries, entry}
use Rattle.pg_meaning.specs.declared.fault.Fault.{Fault}
use Rattle.pg_meaning.specs.Changes.{path_nodes, path_relationships}
use Rattle.pg_soundness.specs.WholeQueries.{RowsFitColumns, ShowsNode, ItemsShowNode, EntriesShowNode, ShowsRelationship, ItemsShowRelationship, EntriesShowRelationship, RowsShowWhatIsThere}

-- ---- a projected row names its columns

-- as many values as columns
abbrev IsWide : List Column → Projected → Type 0
IsWide columns p = length p.columns ≡ length columns

answers_length : {X Y : Type 0} (f : X → Result Y Fault) (xs : List X) (ys : List Y) → each_answer f xs ≡ Ok ys → length ys ≡ length xs
answers_length f [] ys e = ap length (sym (same_ok [] ys e))
answers_length f (x ∷ xs) ys e =
    let first = went_well (f x) (λ y. each_answer f xs >>= λ zs. Ok (y ∷ zs)) ys e in
    let rest = went_well (each_answer f xs) (λ zs. Ok (first.0 ∷ zs)) ys first.2 in
    ap length (sym (same_ok (first.0 ∷ rest.0) ys rest.2)) ∙ ap suc (answers_length f xs rest.0 rest.1)

projected_wide : (g : Given) (graph : Graph) (distinct : Bool) (columns : List Column) (row : Row) (p : Projected) → projected g.parameters graph distinct columns row ≡ Ok p → IsWide columns p
projected_wide g graph distinct columns row p e =
    let vs = went_well (each_answer (column_value g.parameters graph row) columns) (λ vs. Ok (record { columns = vs; earlier = cond distinct [] row })) p e in
    ap (λ (q : Projected). length q.columns) (sym (same_ok _ p vs.2)) ∙ answers_length (column_value g.parameters graph row) columns vs.0 vs.1

zip_second : {X Y : Type 0} (R : X → Y → Type 0) (P : Y → Type 0) → ((x : X) (y : Y) → R x y → P y) → (xs : List X) (ys : List Y) → AllZip R xs ys → AllByRecursion P ys
zip_second R P f [] [] h = tt
zip_second R P f [] (y ∷ ys) h = absurd h
zip_second R P f (x ∷ xs) [] h = absurd h
zip_second R P f (x ∷ xs) (y ∷ ys) h = (f x y h.0, zip_second R P f xs ys h.1)

items_wide : (g : Given) (graph : Graph) (distinct : Bool) (columns : List Column) (rows : List Row) (made : List Projected) → Items g graph distinct columns rows made → AllByRecursion (IsWide columns) made
items_wide g graph distinct columns rows made = by_kind (list_any is_aggregate columns)
  where
    by_kind : (b : Bool) → elim b as (λ b. Type 0) [ true ↦ Groups g graph columns rows made | false ↦ AllZip (λ row r. projected g.parameters graph distinct columns row ≡ Ok r) rows made ] → AllByRecursion (IsWide columns) made
    by_kind true h =
        zip_second (λ k r. (each_answer (group_value g graph (rows_with_key k h.keyed)) columns ≡ Ok r.columns) × (r.earlier ≡ [])) (IsWide columns)
        (λ k r e. answers_length (group_value g graph (rows_with_key k h.keyed)) columns r.columns e.0) h.keys made h.summaries
    by_kind false h = zip_second (λ row r. projected g.parameters graph distinct columns row ≡ Ok r) (IsWide columns) (λ row r e. projected_wide g graph distinct columns row r e) rows made h

-- ---- what is kept, sorted and cut was made

module _ (P : Projected → Type 0) where
  all_distinct : (distinct : Bool) (all kept : List Projected) → Distinct distinct all kept → AllByRecursion P all → AllByRecursion P kept
  all_distinct true all kept d h = all_weaker (λ p. IsIn p all) P (λ p i. all_at P p all h i) kept d.from
  all_distinct false all kept d h = subst (AllByRecursion P) (sym d) h

  all_sorted : (g : Given) (graph : Graph) (columns : List Column) (order : List SortItem) (all sorted : List Projected) → Sorted g graph columns order all sorted → AllByRecursion P all → AllByRecursion P sorted
  all_sorted g graph columns [] all sorted s h = subst (AllByRecursion P) (sym s) h
  all_sorted g graph columns (o ∷ os) all sorted s h = recursion_from_All P sorted (All-permutation P all sorted s.same (All-from_recursion P all h))

  all_taken : (n : ℕ) (ps : List Projected) → AllByRecursion P ps → AllByRecursion P (take n ps)
  all_taken zero ps h = tt
  all_taken (suc n) [] h = tt
  all_taken (suc n) (p ∷ ps) h = (h.0, all_taken n ps h.1)

  all_dropped : (n : ℕ) (ps : List Projected) → AllByRecursion P ps → AllByRecursion P (drop n ps)
  all_dropped zero ps h = h
  all_dropped (suc n) [] h = tt
  all_dropped (suc n) (p ∷ ps) h = all_dropped n ps h.1

  all_cut : (skip limit : Option ℕ) (ps : List Projected) → AllByRecursion P ps → AllByRecursion P (limited limit (skipped skip ps))
  all_cut None None ps h = h
  all_cut None (Some n) ps h = all_taken n ps h
  all_cut (Some m) None ps h = all_dropped m ps h
  all_cut (Some m) (Some n) ps h = all_taken n (drop m ps) (all_dropped m ps h)

  all_passing : (g : Given) (graph : Graph) (where_ : Option Expression) (ps kept : List Projected) → Passing g graph where_ ps kept → AllByRecursion P ps → AllByRecursion P kept
  all_passing g graph where_ [] kept e h = subst (AllByRecursion P) (sym e) tt
  all_passing g graph where_ (p ∷ ps) kept e h = subst (AllByRecursion P) (sym e.4) (by_first e.0 (all_passing g graph where_ ps e.1 e.3 h.1))
    where
      by_first : (b : Bool) → AllByRecursion P e.1 → AllByRecursion P (cond b (p ∷ e.1) e.1)
      by_first true r = (h.0, r)
      by_first false r = r

rows_wide : (columns : List Column) (ps : List Projected) → AllByRecursion (IsWide columns) ps → AllByRecursion (λ row. length row ≡ length columns) (map (λ (p : Projected). p.columns) ps)
rows_wide columns [] h = tt
rows_wide columns (p ∷ ps) h = (h.0, rows_wide columns ps h.1)

projection_wide : (g : Given) (graph : Graph) (columns : List Column) (p : Projection) (where_ : Option Expression) (rows results : List Row) → Projects g graph columns p where_ rows results → AllByRecursion (λ row. length row ≡ length columns) results
projection_wide g graph columns p where_ rows results h =
    let made = items_wide g graph p.distinct columns rows h.made h.items in
    let kept = all_distinct (IsWide columns) p.distinct h.made h.kept h.distinct made in
    let sorted = all_sorted (IsWide columns) g graph columns p.order h.kept h.sorted h.order kept in
    let passing = all_passing (IsWide columns) g graph where_ (limited h.limit (skipped h.skip h.sorted)) h.passing h.condition (all_cut (IsWide columns) h.skip h.limit h.sorted sorted) in
    subst (AllByRecursion (λ row. length row ≡ length columns)) (sym h.shown) (rows_wide columns h.passing passing)

-- ---- the last clause

output_wide : (columns : List Column) (rows : List Row) → AllByRecursion (λ row. length row ≡ length columns) rows → AllByRecursion (λ row. length row ≡ length columns) (map values_in rows)
output_wide columns [] h = tt
output_wide columns (row ∷ rows) h = (length-map row (λ b. b.1) ∙ h.0, output_wide columns rows h.1)

module _ (parameters : Entries) (most : ℕ) (p : Projection) where
  -- what the last clause gives, in the scope that it sees
  abbrev Last : Names → List Clause → List Row → Type 0
  Last scope cs results = (at_end : Names) × (columns_from scope cs ≡ column_names (return_columns at_end p)) × (returns cs ≡ true) × AllByRecursion (λ row. length row ≡ length (return_columns at_end p)) results

  last_wide : (cs : List Clause) (scope : Names) (graph : Graph) (rows : List Row) (after : Graph) (results : List Row) → returns cs ≡ false → Steps parameters most scope (cs ++ return_rows p ∷ []) graph rows after results → Last scope (cs ++ return_rows p ∷ []) results
  last_wide [] scope graph rows after results none h =
      (scope, refl, refl, subst (AllByRecursion (λ row. length row ≡ length (return_columns scope p))) (sym h.3.1) (projection_wide (given_of parameters most scope) graph (return_columns scope p) p None rows h.1 h.2.1))
  last_wide (match_paths is_optional paths where_ ∷ cs) scope graph rows after results none h = last_wide cs (scope_after scope (match_paths is_optional paths where_)) h.0 h.1 after results none h.3
  last_wide (unwind e name ∷ cs) scope graph rows after results none h = last_wide cs (scope_after scope (unwind e name)) h.0 h.1 after results none h.3
  last_wide (create paths ∷ cs) scope graph rows after results none h = last_wide cs (scope_after scope (create paths)) h.0 h.1 after results none h.3
  last_wide (merge m parts ∷ cs) scope graph rows after results none h = last_wide cs (scope_after scope (merge m parts)) h.0 h.1 after results none h.3
  last_wide (set_items items ∷ cs) scope graph rows after results none h = last_wide cs scope h.0 h.1 after results none h.3
  last_wide (remove_items items ∷ cs) scope graph rows after results none h = last_wide cs scope h.0 h.1 after results none h.3
  last_wide (delete is_detach es ∷ cs) scope graph rows after results none h = last_wide cs scope h.0 h.1 after results none h.3
  last_wide (with_rows q where_ ∷ cs) scope graph rows after results none h = last_wide cs (scope_after scope (with_rows q where_)) h.0 h.1 after results none h.3
  last_wide (return_rows q ∷ cs) scope graph rows after results none h = absurd (true≢false none)

pub rows_fit_columns : RowsFitColumns
rows_fit_columns q parameters most graph columns rows after ends h =
    let last = last_wide parameters most ends.1 ends.0 [] graph ([] ∷ []) after h.results ends.2 (subst (λ cs. Steps parameters most [] cs graph ([] ∷ []) after h.results) ends.3 h.steps) in
    let width = ap length (h.named ∙ ap (columns_from []) ends.3 ∙ last.1) ∙ length-map (return_columns last.0 ends.1) (λ (c : Column). c.name) in
    let shown = h.shown ∙ ap (λ b. output_rows b h.results) (ap returns ends.3 ∙ last.2) in
    subst (AllByRecursion (λ row. length row ≡ length columns)) (sym shown)
    (subst (λ n. AllByRecursion (λ row. length row ≡ n) (map values_in h.results)) (sym width) (output_wide (return_columns last.0 ends.1) h.results last.3))

-- ---- what is shown

passes_first : (a b : Result (Unit {0}) Fault) → (a >> b) ≡ Ok tt → (a ≡ Ok tt) × (b ≡ Ok tt)
passes_first (Ok x) b h = (refl, h)
passes_first (Err f) b h = cc

is_present : (b : Bool) → test_present b ≡ Ok tt → b ≡ true
is_present true h = refl
is_present false h = cc

module _ (graph : Graph) where
  nodes_there : (ids : List ℕ) → test_ids graph ids ≡ Ok tt → (m : ℕ) → IsIn m (path_nodes ids) → has_node graph m ≡ true
  nodes_there [] h m i = absurd i
  nodes_there (n ∷ []) h m (inl e) = ap (has_node graph) e ∙ is_present (has_node graph n) h
  nodes_there (n ∷ []) h m (inr i) = absurd i
  nodes_there (n ∷ r ∷ ids) h m (inl e) =
      let both = passes_first (test_present (has_node graph n) >> test_present (has_relationship graph r)) (test_ids graph ids) h in
      ap (has_node graph) e ∙ is_present (has_node graph n) (passes_first (test_present (has_node graph n)) (test_present (has_relationship graph r)) both.0).0
  nodes_there (n ∷ r ∷ ids) h m (inr i) = nodes_there ids (passes_first (test_present (has_node graph n) >> test_present (has_relationship graph r)) (test_ids graph ids) h).1 m i

  relationships_there : (ids : List ℕ) → test_ids graph ids ≡ Ok tt → (s : ℕ) → IsIn s (path_relationships ids) → has_relationship graph s ≡ true
  relationships_there [] h s i = absurd i
  relationships_there (n ∷ []) h s i = absurd i
  relationships_there (n ∷ r ∷ ids) h s (inl e) =
      let both = passes_first (test_present (has_node graph n) >> test_present (has_relationship graph r)) (test_ids graph ids) h in
      ap (has_relationship graph) e ∙ is_present (has_relationship graph r) (passes_first (test_present (has_node graph n)) (test_present (has_relationship graph r)) both.0).1
  relationships_there (n ∷ r ∷ ids) h s (inr i) = relationships_there ids (passes_first (test_present (has_node graph n) >> test_present (has_relationship graph r)) (test_ids graph ids) h).1 s i

  mutual
    node_shown : (v : Value) → test_output graph v ≡ Ok tt → (m : ℕ) → ShowsNode v m → has_node graph m ≡ true
    node_shown null h m i = absurd i
    node_shown (boolean b) h m i = absurd i
    node_shown (integer z) h m i = absurd i
    node_shown (text t) h m i = absurd i
    node_shown (list vs) h m i = item_node_shown vs h m i
    node_shown (mapping es) h m i = entry_node_shown es h m i
    node_shown (node n) h m i = ap (has_node graph) i ∙ is_present (has_node graph n) h
    node_shown (relationship r) h m i = absurd i
    node_shown (path ids) h m i = nodes_there ids h m i

    item_node_shown : (vs : Values) → test_items graph vs ≡ Ok tt → (m : ℕ) → ItemsShowNode vs m → has_node graph m ≡ true
    item_node_shown no_items h m i = absurd i
    item_node_shown (item v vs) h m (inl i) = node_shown v (passes_first (test_output graph v) (test_items graph vs) h).0 m i
    item_node_shown (item v vs) h m (inr i) = item_node_shown vs (passes_first (test_output graph v) (test_items graph vs) h).1 m i

    entry_node_shown : (es : Entries) → test_entries graph es ≡ Ok tt → (m : ℕ) → EntriesShowNode es m → has_node graph m ≡ true
    entry_node_shown no_entries h m i = absurd i
    entry_node_shown (entry k v es) h m (inl i) = node_shown v (passes_first (test_output graph v) (test_entries graph es) h).0 m i
    entry_node_shown (entry k v es) h m (inr i) = entry_node_shown es (passes_first (test_output graph v) (test_entries graph es) h).1 m i

  mutual
    relationship_shown : (v : Value) → test_output graph v ≡ Ok tt → (s : ℕ) → ShowsRelationship v s → has_relationship graph s ≡ true
    relationship_shown null h s i = absurd i
    relationship_shown (boolean b) h s i = absurd i
    relationship_shown (integer z) h s i = absurd i
    relationship_shown (text t) h s i = absurd i
    relationship_shown (list vs) h s i = item_relationship_shown vs h s i
    relationship_shown (mapping es) h s i = entry_relationship_shown es h s i
    relationship_shown (node n) h s i = absurd i
    relationship_shown (relationship r) h s i = ap (has_relationship graph) i ∙ is_present (has_relationship graph r) h
    relationship_shown (path ids) h s i = relationships_there ids h s i

    item_relationship_shown : (vs : Values) → test_items graph vs ≡ Ok tt → (s : ℕ) → ItemsShowRelationship vs s → has_relationship graph s ≡ true
    item_relationship_shown no_items h s i = absurd i
    item_relationship_shown (item v vs) h s (inl i) = relationship_shown v (passes_first (test_output graph v) (test_items graph vs) h).0 s i
    item_relationship_shown (item v vs) h s (inr i) = item_relationship_shown vs (passes_first (test_output graph v) (test_items graph vs) h).1 s i

    entry_relationship_shown : (es : Entries) → test_entries graph es ≡ Ok tt → (s : ℕ) → EntriesShowRelationship es s → has_relationship graph s ≡ true
    entry_relationship_shown no_entries h s i = absurd i
    entry_relationship_shown (entry k v es) h s (inl i) = relationship_shown v (passes_first (test_output graph v) (test_entries graph es) h).0 s i
    entry_relationship_shown (entry k v es) h s (inr i) = entry_relationship_shown es (passes_first (test_output graph v) (test_entries graph es) h).1 s i

in_first : {X : Type 0} (x : X) (xs ys : List X) → IsIn x xs → IsIn x (xs ++ ys)
in_first x [] ys i = absurd i
in_first x (z ∷ xs) ys (inl e) = inl e
in_first x (z ∷ xs) ys (inr i) = inr (in_first x xs ys i)

in_second : {X : Type 0} (x : X) (xs ys : List X) → IsIn x ys → IsIn x (xs ++ ys)
in_second x [] ys i = i
in_second x (z ∷ xs) ys i = inr (in_second x xs ys i)

in_joined : (v : Value) (row : List Value) (rows : List (List Value)) → IsIn row rows → IsIn v row → IsIn v (flat_map (λ r. r) rows)
in_joined v row [] i j = absurd i
in_joined v row (r ∷ rows) (inl e) j = in_first v r (flat_map (λ r. r) rows) (subst (IsIn v) e j)
in_joined v row (r ∷ rows) (inr i) j = in_second v r (flat_map (λ r. r) rows) (in_joined v row rows i j)

pub rows_show_what_is_there : RowsShowWhatIsThere
rows_show_what_is_there q parameters most graph columns rows after h row v i j =
    let live = all_at (λ v. test_output after v ≡ Ok tt) v (output_of q h.results) h.live (in_joined v row (output_rows (returns q.clauses) h.results) (subst (IsIn row) h.shown i) j) in
    (node_shown after v live, relationship_shown after v live)
