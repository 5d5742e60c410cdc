-- Variables that the row or the clause has bound.
use Rattle.std.proofs.Common.{◌≡◌, ◌<◌, ◌+◌, ℕ, drop, get_or, length, Bool, true, false, cond, List, [], ◌∷◌, ◌++◌, Option, Some, None, is_some, flat_map, Result, Ok, Err, refl, sym, ap, ◌∙◌, append_assoc}
use Rattle.std.proofs.lemmas.List.{map-append}
use Rattle.std.proofs.lemmas.Option.{slice_get_read}
use Rattle.std.specs.Borrow.{Bor}
use Rattle.std.specs.Map.{lookup}
use Rattle.std.specs.Prelude.{IfOk, bytes_eq}
use Rattle.pg_meaning.specs.Answer.{◌>>=◌, ◌>>◌, unless}
use Rattle.pg_meaning.specs.Graph.{Graph, has_node}
use Rattle.pg_meaning.specs.Patterns.{node_name, nodes_of}
use Rattle.pg_meaning.specs.Reading.{test_bound, test_nodes, test_paths}
use Rattle.pg_meaning.specs.Rows.{Row, value_in, bind_if_named, bind_new}
use Rattle.pg_meaning.specs.Value.{Value, null, boolean, integer, text, list, mapping, node, relationship, path}
use Rattle.pg_meaning.specs.Tree.{NodePattern, PathPattern}
use Rattle.pg_meaning.specs.Updates.{Making}
use Rattle.pg_meaning.specs.declared.fault.Fault.{Fault}
use Rattle.pg_meaning.specs.declared.fault.Fault.TheVariants.{DeletedEntity}
use Rattle.pg_meaning.specs.Walks.{bound_value}
use Rattle.pg_value_core.specs.declared.ids.NodeId.{NodeId}
use Rattle.pg_write_make.specs.Makings.{bindings, named_ids, node_ids, AreThere}
use Rattle.pg_syntax_tree.specs.View.{path_view}
use Rattle.pg_syntax_tree.specs.declared.patterns.PathPattern.{PathPattern as PathCode}
use Rattle.pg_write_make.specs.Lent.{paths_view}
use Rattle.pg_write_make.proofs.RowLemmas.{drop_at}
use Rattle.pg_write_make.specs.Outcomes.{Outcome, node_added, node_after, node_found, node_of, with_id, with_new}

module _ (t : List ℕ → Bool) where
  at_first : (b : Bool) (v w : Value) (r s : Option Value) → cond b (Some v) r ≡ Some w → (r ≡ Some w → s ≡ Some w) → cond b (Some v) s ≡ Some w
  at_first true v w r s h k = h
  at_first false v w r s h k = k h

  found_first : (row more : Row) (v : Value) → lookup t row ≡ Some v → lookup t (row ++ more) ≡ Some v
  found_first [] more v h = absurd cc
  found_first (b ∷ bs) more v h = at_first (t b.0) b.1 v (lookup t bs) (lookup t (bs ++ more)) h (found_first bs more v)

  at_none : (b : Bool) (v : Value) (r s u : Option Value) → cond b (Some v) r ≡ None → (r ≡ None → s ≡ u) → cond b (Some v) s ≡ u
  at_none true v r s u h k = absurd cc
  at_none false v r s u h k = k h

  found_behind : (row more : Row) → lookup t row ≡ None → lookup t (row ++ more) ≡ lookup t more
  found_behind [] more h = refl
  found_behind (b ∷ bs) more h = at_none (t b.0) b.1 (lookup t bs) (lookup t (bs ++ more)) (lookup t more) h (found_behind bs more)

-- what the row binds, and what it doesn't
pub bound_before : (name : List ℕ) (row more : Row) (v : Value) → value_in name row ≡ Some v → value_in name (row ++ more) ≡ Some v
bound_before name row more v h = found_first (bytes_eq name) row more v h

pub bound_here : (name : List ℕ) (row more : Row) → value_in name row ≡ None → value_in name (row ++ more) ≡ lookup (bytes_eq name) more
bound_here name row more h = found_behind (bytes_eq name) row more h

-- a name that isn't bound goes to the end
pub bound_last : (name : List ℕ) (v : Value) (row : Row) → value_in name row ≡ None → bind_new name v row ≡ row ++ (name, v) ∷ []
bound_last name v row h = ap (λ (o : Option Value). cond (is_some o) row (row ++ (name, v) ∷ [])) h

-- ---- the node that is found is there

there_if_tested : (graph : Graph) (v : Value) (id : ℕ) → test_bound false graph (Some v) ≡ Ok tt → node_found (Some v) ≡ Ok (Some id) → has_node graph id ≡ true
there_if_tested graph (node n) id tested found =
    let same : n ≡ id = cc in
    ap (has_node graph) (sym same) ∙ passed (has_node graph n) tested
  where
    passed : (b : Bool) → unless b DeletedEntity ≡ Ok tt → b ≡ true
    passed true e = refl
    passed false e = absurd cc
there_if_tested graph null id tested found = absurd cc
there_if_tested graph (boolean b) id tested found = absurd cc
there_if_tested graph (integer b) id tested found = absurd cc
there_if_tested graph (text b) id tested found = absurd cc
there_if_tested graph (list b) id tested found = absurd cc
there_if_tested graph (mapping b) id tested found = absurd cc
there_if_tested graph (relationship b) id tested found = absurd cc
there_if_tested graph (path b) id tested found = absurd cc

there_if_named : (graph : Graph) (t : List ℕ → Bool) (named : List (Bor (List ℕ) × NodeId)) (id : ℕ) → AreThere graph (named_ids named) → node_found (lookup t (bindings named)) ≡ Ok (Some id) → has_node graph id ≡ true
there_if_named graph t [] id there found = absurd cc
there_if_named graph t (b ∷ bs) id there found = by_test (t b.0.now) there.0 (there_if_named graph t bs id there.1) found
  where
    by_test : (c : Bool) → has_node graph b.1.0 ≡ true → (node_found (lookup t (bindings bs)) ≡ Ok (Some id) → has_node graph id ≡ true) → node_found (cond c (Some (node b.1.0)) (lookup t (bindings bs))) ≡ Ok (Some id) → has_node graph id ≡ true
    by_test true now rest e = (let same : b.1.0 ≡ id = cc in ap (has_node graph) (sym same) ∙ now)
    by_test false now rest e = rest e

pub found_there : (graph : Graph) (o : Option (List ℕ)) (row : Row) (named : List (Bor (List ℕ) × NodeId)) (id : ℕ) → test_bound false graph (bound_value o row) ≡ Ok tt → AreThere graph (named_ids named)
    → node_found (bound_value o (row ++ bindings named)) ≡ Ok (Some id) → has_node graph id ≡ true
found_there graph None row named id tested there found = absurd cc
found_there graph (Some name) row named id tested there found = by_row (value_in name row) refl
  where
    by_row : (o : Option Value) → value_in name row ≡ o → has_node graph id ≡ true
    by_row None none = there_if_named graph (bytes_eq name) named id there (ap node_found (sym (bound_here name row (bindings named) none)) ∙ found)
    by_row (Some v) is = there_if_tested graph v id (ap (test_bound false graph) (sym is) ∙ tested) (ap node_found (sym (bound_before name row (bindings named) v is)) ∙ found)

-- a variable that stands for no node is not bound
pub none_found : (o : Option Value) → node_found o ≡ Ok None → o ≡ None
none_found None h = refl
none_found (Some (node n)) h = absurd cc
none_found (Some null) h = absurd cc
none_found (Some (boolean b)) h = absurd cc
none_found (Some (integer b)) h = absurd cc
none_found (Some (text b)) h = absurd cc
none_found (Some (list b)) h = absurd cc
none_found (Some (mapping b)) h = absurd cc
none_found (Some (relationship b)) h = absurd cc
none_found (Some (path b)) h = absurd cc

module _ (max : ℕ) (o : Outcome) (n : NodePattern) (m : Making) where
  abbrev of : Result (Option ℕ) Fault → Result Making Fault
  of r = r >>= λ found. elim found [ Some id ↦ Ok (with_id id m) | None ↦ node_after max o n m ]

  pub of_found : (id : ℕ) → node_found (bound_value (node_name n) m.bound) ≡ Ok (Some id) → node_of max o n m ≡ Ok (with_id id m)
  of_found id h = ap of h

  pub of_new : (after : Making) → node_found (bound_value (node_name n) m.bound) ≡ Ok None → node_after max o n m ≡ Ok after → node_of max o n m ≡ Ok after
  of_new after h k = ap of h ∙ k

  pub of_fault : (e : Fault) → node_found (bound_value (node_name n) m.bound) ≡ Err e → node_of max o n m ≡ Err e
  of_fault e h = ap of h

  pub of_new_fault : (e : Fault) → node_found (bound_value (node_name n) m.bound) ≡ Ok None → node_added max o n m.graph ≡ Err e → node_of max o n m ≡ Err e
  of_new_fault e h k = ap of h ∙ ap (λ r. r >>= λ (after : Graph). Ok (with_new n m after)) k

-- the node of a variable that is bound nowhere, from what making it gives
pub placed : (max : ℕ) (o : Outcome) (n : NodePattern) (before after : Graph) (row named more : Row) (ids all : List ℕ) (r : Result (Unit {0}) Fault) → node_found (bound_value (node_name n) (row ++ named)) ≡ Ok None
    → IfOk r (λ u. (rs : Row) → bound_value (node_name n) (rs ++ named) ≡ None → node_after max o n (record { graph = before; bound = rs ++ named; ids = ids }) ≡ Ok (record { graph = after; bound = rs ++ more; ids = all }))
    → IfOk r (λ u. node_of max o n (record { graph = before; bound = row ++ named; ids = ids }) ≡ Ok (record { graph = after; bound = row ++ more; ids = all }))
placed max o n before after row named more ids all (Ok u) found made = of_new max o n (record { graph = before; bound = row ++ named; ids = ids }) (record { graph = after; bound = row ++ more; ids = all }) found (made row (none_found (bound_value (node_name n) (row ++ named)) found))
placed max o n before after row named more ids all (Err e) found made = tt

-- a new node is bound behind what is bound already
pub new_bound : (max : ℕ) (o : Outcome) (n : NodePattern) (before after : Graph) (named more : Row) (id : ℕ) → node_added max o n before ≡ Ok after → id ≡ before.next_node
    → (node_name n ≡ None → more ≡ named) → ((name : List ℕ) → node_name n ≡ Some name → more ≡ named ++ (name, node id) ∷ [])
    → (row : Row) (ids : List ℕ) → bound_value (node_name n) (row ++ named) ≡ None → node_after max o n (record { graph = before; bound = row ++ named; ids = ids }) ≡ Ok (record { graph = after; bound = row ++ more; ids = ids ++ id ∷ [] })
new_bound max o n before after named more id added same none some row ids free =
    ap (λ r. r >>= λ (g : Graph). Ok (with_new n (record { graph = before; bound = row ++ named; ids = ids }) g)) added
    ∙ ap (λ (k : ℕ). ok_making (bind_if_named (node_name n) (node k) (row ++ named)) k) (sym same)
    ∙ ap (λ (b : Row). ok_making b id) (by_name (node_name n) free none some)
  where
    ok_making : Row → ℕ → Result Making Fault
    ok_making b k = Ok (record { graph = after; bound = b; ids = ids ++ k ∷ [] })

    by_name : (name : Option (List ℕ)) → bound_value name (row ++ named) ≡ None → (name ≡ None → more ≡ named) → ((t : List ℕ) → name ≡ Some t → more ≡ named ++ (t, node id) ∷ []) → bind_if_named name (node id) (row ++ named) ≡ row ++ more
    by_name None h f g = ap (λ (ns : Row). row ++ ns) (sym (f refl))
    by_name (Some t) h f g = bound_last t (node id) (row ++ named) h ∙ append_assoc row named ((t, node id) ∷ []) ∙ ap (λ (ns : Row). row ++ ns) (sym (g t refl))

pub pushed_id : (ids more : List NodeId) (id : NodeId) → more ≡ ids ++ id ∷ [] → node_ids more ≡ node_ids ids ++ id.0 ∷ []
pushed_id ids more id h = ap node_ids h ∙ map-append (λ (i : NodeId). i.0) ids (id ∷ [])

-- ---- the tests path by path

pub nodes_tested : (graph : Graph) (row : Row) (ms ns : List NodePattern) → test_nodes false graph row (ms ++ ns) ≡ (test_nodes false graph row ms >> test_nodes false graph row ns)
nodes_tested graph row [] ns = refl
nodes_tested graph row (m ∷ ms) ns = by_first (test_bound false graph (bound_value (node_name m) row)) (nodes_tested graph row ms ns)
  where
    by_first : (r : Result (Unit {0}) Fault) → test_nodes false graph row (ms ++ ns) ≡ (test_nodes false graph row ms >> test_nodes false graph row ns) → (r >> test_nodes false graph row (ms ++ ns)) ≡ ((r >> test_nodes false graph row ms) >> test_nodes false graph row ns)
    by_first (Ok u) h = h
    by_first (Err e) h = refl

pub paths_tested : (graph : Graph) (row : Row) (p : PathPattern) (ps : List PathPattern) → test_paths false graph row (p ∷ ps) ≡ (test_nodes false graph row (nodes_of p) >> test_paths false graph row ps)
paths_tested graph row p ps = nodes_tested graph row (nodes_of p) (flat_map nodes_of ps)

module _ (graph : Graph) (row : Row) (xs : List PathCode) (i : ℕ) (x : PathCode) (at : x ≡ get_or xs i x) (within : i < length xs) where
  pub next_tested : test_paths false graph row (paths_view (drop i xs)) ≡ (test_nodes false graph row (nodes_of (path_view x)) >> test_paths false graph row (paths_view (drop (i + 1) xs)))
  next_tested =
      ap (λ ps. test_paths false graph row (paths_view ps)) (drop_at xs i x (slice_get_read xs (length xs) i x refl within at))
      ∙ paths_tested graph row (path_view x) (paths_view (drop (i + 1) xs))

  pub path_passed : test_nodes false graph row (nodes_of (path_view x)) ≡ Ok tt → test_paths false graph row (paths_view (drop i xs)) ≡ test_paths false graph row (paths_view (drop (i + 1) xs))
  path_passed is = next_tested ∙ ap (λ r. r >> test_paths false graph row (paths_view (drop (i + 1) xs))) is

  pub path_refused : (e : Fault) → test_nodes false graph row (nodes_of (path_view x)) ≡ Err e → test_paths false graph row (paths_view (drop i xs)) ≡ Err e
  path_refused e is = next_tested ∙ ap (λ r. r >> test_paths false graph row (paths_view (drop (i + 1) xs))) is
