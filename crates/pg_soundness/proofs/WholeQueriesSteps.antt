-- A property of the graphs before and after that is reflexive and goes on holds of a whole query, if it does of what CREATE, SET, REMOVE and DELETE do.
use Rattle.std.proofs.Common.{◌≡◌, ℕ, Bool, true, false, ◌⊎◌, inl, inr, List, [], ◌∷◌, Option, Some, None, refl, sym, subst}
use Rattle.std.specs.Bool.{⊤}
use Rattle.std.specs.List.{AllByRecursion}
use Rattle.pg_meaning.specs.Turns.{Given, RowByRow, InTurn}
use Rattle.pg_meaning.specs.Graph.{Graph, Node, Relationship, IsGraph, remove_elements}
use Rattle.pg_meaning.specs.Lists.{IsIn}
use Rattle.pg_meaning.specs.Meaning.{given_of, CreateRow, MergeRow, MergeMatched, MergeMade, Step, Steps, Means}
use Rattle.pg_meaning.specs.Names.{Names}
use Rattle.pg_meaning.specs.Rows.{Row, value_in}
use Rattle.pg_meaning.specs.Scopes.{scope_after}
use Rattle.pg_meaning.specs.Tree.{PathPattern, SetItem, set_property, set_all, set_more, set_labels, RemoveItem, remove_property, remove_labels, Clause, match_paths, unwind, create, merge, set_items, remove_items, delete, with_rows, return_rows, Query}
use Rattle.pg_meaning.specs.Updates.{items_on, doomed_nodes, doomed_relationships}
use Rattle.pg_meaning.specs.Value.{Value, null, boolean, integer, text, list, mapping, node, relationship, path, Entries}
use Rattle.pg_meaning.specs.Changes.{NodeChanges, RelationshipChanges, ElementChanges, PropertiesChange, LabelsChange, SetsItem, RemovesItem, Sets, Removes}
use Rattle.pg_soundness.specs.WholeQueries.{makes, changes, removes}
use Rattle.pg_soundness.proofs.ChangesRows.{set_keeps, remove_keeps, set_row_keeps, remove_row_keeps, sets_keep, removes_keep}
use Rattle.pg_soundness.proofs.DeletesComputed.{some_setting, delete_is_computed}

-- ---- one element changes, and it keeps its type and its ends

abbrev pub AnyNode : ℕ → Graph → Graph → Type 0
AnyNode n graph after = NodeChanges (λ before now. ⊤) n graph after

abbrev pub SameType : Relationship → Relationship → Type 0
SameType before now = (now.type ≡ before.type) × (now.source ≡ before.source) × (now.target ≡ before.target)

abbrev pub AnyRelationship : ℕ → Graph → Graph → Type 0
AnyRelationship r graph after = RelationshipChanges SameType r graph after

abbrev pub AnyElement : Graph → Graph → Type 0
AnyElement graph after = ((n : ℕ) × AnyNode n graph after) ⊎ ((r : ℕ) × AnyRelationship r graph after)

any_node : (N : Node → Node → Type 0) (n : ℕ) (graph after : Graph) → NodeChanges N n graph after → AnyNode n graph after
any_node N n graph after h = record {
  before = h.before;
  now = h.now;
  was = h.was;
  is = h.is;
  becomes = tt;
  others = h.others;
  relationships = h.relationships;
  next_node = h.next_node;
  next_relationship = h.next_relationship;
  graph_again = h.graph_again;
}

any_relationship : (R : Relationship → Relationship → Type 0) → ((before now : Relationship) → R before now → SameType before now) → (r : ℕ) (graph after : Graph) → RelationshipChanges R r graph after → AnyRelationship r graph after
any_relationship R same r graph after h = record {
  before = h.before;
  now = h.now;
  was = h.was;
  is = h.is;
  becomes = same h.before h.now h.becomes;
  others = h.others;
  nodes = h.nodes;
  next_node = h.next_node;
  next_relationship = h.next_relationship;
  graph_again = h.graph_again;
}

module _ (P : Graph → Graph → Type 0) (reflexive : (graph : Graph) → P graph graph) (changed : (graph after : Graph) → IsGraph graph → AnyElement graph after → P graph after) where
  element_law : (N : Node → Node → Type 0) (R : Relationship → Relationship → Type 0) → ((before now : Relationship) → R before now → SameType before now) → (o : Option Value) (graph after : Graph) → IsGraph graph → ElementChanges N R o graph after → P graph after
  element_law N R same None graph after g h = absurd h
  element_law N R same (Some null) graph after g h = subst (P graph) (sym h) (reflexive graph)
  element_law N R same (Some (boolean v)) graph after g h = absurd h
  element_law N R same (Some (integer v)) graph after g h = absurd h
  element_law N R same (Some (text v)) graph after g h = absurd h
  element_law N R same (Some (list v)) graph after g h = absurd h
  element_law N R same (Some (mapping v)) graph after g h = absurd h
  element_law N R same (Some (path v)) graph after g h = absurd h
  element_law N R same (Some (node n)) graph after g h = changed graph after g (inl (n, any_node N n graph after h))
  element_law N R same (Some (relationship r)) graph after g h = changed graph after g (inr (r, any_relationship R same r graph after h))

  properties_law : (Become : Entries → Entries → Type 0) (o : Option Value) (graph after : Graph) → IsGraph graph → PropertiesChange Become o graph after → P graph after
  properties_law Become o graph after = element_law _ _ (λ before now h. (h.0, h.1, h.2)) o graph after

  labels_law : (Become : Names → Names → Type 0) (o : Option Value) (graph after : Graph) → IsGraph graph → LabelsChange Become o graph after → P graph after
  labels_law Become o graph after = element_law _ _ (λ before now h. absurd h) o graph after

  set_item_law : (g : Given) (row : Row) (graph : Graph) (i : SetItem) (after : Graph) → IsGraph graph → SetsItem g row graph i after → P graph after
  set_item_law g row graph (set_property t k e) after = properties_law _ (value_in t.text row) graph after
  set_item_law g row graph (set_all t e) after = properties_law _ (value_in t.text row) graph after
  set_item_law g row graph (set_more t e) after = properties_law _ (value_in t.text row) graph after
  set_item_law g row graph (set_labels t ls) after = labels_law _ (value_in t.text row) graph after

  remove_item_law : (row : Row) (graph : Graph) (i : RemoveItem) (after : Graph) → IsGraph graph → RemovesItem row graph i after → P graph after
  remove_item_law row graph (remove_property t k) after = properties_law _ (value_in t.text row) graph after
  remove_item_law row graph (remove_labels t ls) after = labels_law _ (value_in t.text row) graph after

-- ---- clauses

-- M: something may be made; C: an element may change; D: elements may be removed
module _ (most : ℕ) (P : Graph → Graph → Type 0) (M C D : Type 0)
    (reflexive : (graph : Graph) → P graph graph)
    (goes_on : (a b c : Graph) → IsGraph a → IsGraph b → P a b → P b c → P a c)
    (made : M → (parameters : Entries) (scope : Names) (paths : List PathPattern) (graph : Graph) (row : Row) (after : Graph) (results : List Row) → IsGraph graph → CreateRow (given_of parameters most scope) paths graph row after results → P graph after)
    (changed : C → (graph after : Graph) → IsGraph graph → AnyElement graph after → P graph after)
    (removed : D → (ns rs : List ℕ) (graph : Graph) → IsGraph graph → P graph (remove_elements ns rs graph)) where
  turn_law : {X : Type 0} (R : Graph → X → Graph → Type 0) → ((graph : Graph) (x : X) (after : Graph) → IsGraph graph → R graph x after → IsGraph after) → (xs : List X)
      → ((graph : Graph) (x : X) (after : Graph) → IsIn x xs → IsGraph graph → R graph x after → P graph after)
      → (graph after : Graph) → IsGraph graph → InTurn R graph xs after → P graph after
  turn_law R keeps [] each graph after g h = subst (P graph) (sym h) (reflexive graph)
  turn_law R keeps (x ∷ xs) each graph after g h =
      goes_on graph h.0 after g (keeps graph x h.0 g h.1) (each graph x h.0 (inl refl) g h.1)
      (turn_law R keeps xs (λ b y a i gb hb. each b y a (inr i) gb hb) h.0 after (keeps graph x h.0 g h.1) h.2)

  sets_law : (g : Given) (items : List SetItem) → ((i : SetItem) → IsIn i items → C) → (graph : Graph) (rows : List Row) (after : Graph) → IsGraph graph → Sets g items graph rows after → P graph after
  sets_law g items may graph rows after is =
      turn_law (λ before row next. InTurn (SetsItem g row) before items next) (set_row_keeps g items) rows
      (λ before row next i gb. turn_law (SetsItem g row) (λ b x a gx hx. set_keeps g row b x a gx hx) items (λ b x a ix gx hx. set_item_law P reflexive (changed (may x ix)) g row b x a gx hx) before next gb)
      graph after is

  removes_law : C → (items : List RemoveItem) (graph : Graph) (rows : List Row) (after : Graph) → IsGraph graph → Removes items graph rows after → P graph after
  removes_law may items graph rows after is =
      turn_law (λ before row next. InTurn (RemovesItem row) before items next) (remove_row_keeps items) rows
      (λ before row next i gb. turn_law (RemovesItem row) (λ b x a gx hx. remove_keeps row b x a gx hx) items (λ b x a ix gx hx. remove_item_law P reflexive (changed may) row b x a gx hx) before next gb)
      graph after is

  abbrev Holds : Graph → Graph → Type 0
  Holds graph after = P graph after × IsGraph after

  set_rows_law : (g : Given) (items : List SetItem) → ((i : SetItem) → IsIn i items → C) → (graph : Graph) (rows : List Row) (after : Graph) → IsGraph graph → Sets g items graph rows after → Holds graph after
  set_rows_law g items may graph rows after is sets = (sets_law g items may graph rows after is sets, sets_keep g items graph rows after is sets)

  rows_law : (R : Graph → Row → Graph → List Row → Type 0) → ((graph : Graph) (row : Row) (after : Graph) (results : List Row) → IsGraph graph → R graph row after results → Holds graph after)
      → (rows : List Row) (graph after : Graph) (results : List Row) → IsGraph graph → RowByRow R graph rows after results → Holds graph after
  rows_law R each [] graph after results g h = (subst (P graph) (sym h.0) (reflexive graph), subst IsGraph (sym h.0) g)
  rows_law R each (row ∷ rows) graph after results g h =
      let first = each graph row h.0 h.1 g h.3 in
      let rest = rows_law R each rows h.0 after h.2 first.1 h.4 in
      (goes_on graph h.0 after g first.1 first.0 rest.0, rest.1)

  items_allowed : (p : PathPattern) (parts : List (Bool × List SetItem)) → (changes (merge p parts) ≡ true → C) → (on_create : Bool) (i : SetItem) → IsIn i (items_on on_create parts) → C
  items_allowed p [] may on_create i h = absurd h
  items_allowed p (part ∷ parts) may on_create i h = may refl

  merge_law : (parameters : Entries) (scope : Names) (p : PathPattern) (parts : List (Bool × List SetItem)) → M → (changes (merge p parts) ≡ true → C)
      → (graph : Graph) (row : Row) (after : Graph) (results : List Row) → IsGraph graph → MergeRow (given_of parameters most scope) p parts graph row after results → Holds graph after
  merge_law parameters scope p parts may_make may_change graph row after results g h = by_one h.one
    where
      by_one : MergeMatched (given_of parameters most scope) p (items_on false parts) graph row after results ⊎ MergeMade (given_of parameters most scope) p (items_on true parts) graph row after results → Holds graph after
      by_one (inl m) = set_rows_law (given_of parameters most scope) (items_on false parts) (items_allowed p parts may_change false) graph results after g m.items_run
      by_one (inr m) =
          let rest = set_rows_law (given_of parameters most scope) (items_on true parts) (items_allowed p parts may_change true) m.made results after m.creation.graph_again m.items_run in
          (goes_on graph m.made after g m.creation.graph_again (made may_make parameters scope (p ∷ []) graph row m.made results g m.creation) rest.0, rest.1)

  same_holds : (graph after : Graph) → IsGraph graph → after ≡ graph → Holds graph after
  same_holds graph after g e = (subst (P graph) (sym e) (reflexive graph), subst IsGraph (sym e) g)

  abbrev pub Allowed : Clause → Type 0
  Allowed c = (makes c ≡ true → M) × (changes c ≡ true → C) × (removes c ≡ true → D)

  step_law : (parameters : Entries) (scope : Names) (c : Clause) → Allowed c → (graph : Graph) (rows : List Row) (after : Graph) (results : List Row) → IsGraph graph → Step (given_of parameters most scope) c graph rows after results → Holds graph after
  step_law parameters scope (match_paths is_optional paths where_) may graph rows after results g h = same_holds graph after g h.0
  step_law parameters scope (unwind e name) may graph rows after results g h = same_holds graph after g h.0
  step_law parameters scope (with_rows p where_) may graph rows after results g h = same_holds graph after g h.0
  step_law parameters scope (return_rows p) may graph rows after results g h = same_holds graph after g h.0
  step_law parameters scope (create paths) may graph rows after results g h =
      rows_law (CreateRow (given_of parameters most scope) paths) (λ b row a rs gb hb. (made (may.0 refl) parameters scope paths b row a rs gb hb, hb.graph_again)) rows graph after results g h
  step_law parameters scope (merge p parts) may graph rows after results g h =
      rows_law (MergeRow (given_of parameters most scope) p parts) (merge_law parameters scope p parts (may.0 refl) may.1) rows graph after results g h
  step_law parameters scope (set_items items) may graph rows after results g h = set_rows_law (given_of parameters most scope) items (λ i x. may.1 refl) graph rows after g h.0
  step_law parameters scope (remove_items items) may graph rows after results g h = (removes_law (may.1 refl) items graph rows after g h.0, removes_keep items graph rows after g h.0)
  step_law parameters scope (delete is_detach es) may graph rows after results g h =
      let made = (delete_is_computed (some_setting (given_of parameters most scope)) is_detach es graph after rows g).1 h.0 in
      (subst (P graph) (sym made.removed) (removed (may.2 refl) (doomed_nodes graph made.doomed) (doomed_relationships is_detach graph made.doomed) graph g), (h.0).graph_again)

  -- ---- queries

  steps_law : (parameters : Entries) (cs : List Clause) → AllByRecursion Allowed cs → (scope : Names) (graph : Graph) (rows : List Row) (after : Graph) (results : List Row) → IsGraph graph → Steps parameters most scope cs graph rows after results → Holds graph after
  steps_law parameters [] may scope graph rows after results g h = same_holds graph after g h.0
  steps_law parameters (c ∷ cs) may scope graph rows after results g h =
      let first = step_law parameters scope c may.0 graph rows h.0 h.1 g h.2 in
      let rest = steps_law parameters cs may.1 (scope_after scope c) h.0 h.1 after results first.1 h.3 in
      (goes_on graph h.0 after g first.1 first.0 rest.0, rest.1)

  pub means_law : (q : Query) (parameters : Entries) (graph : Graph) (columns : List (List ℕ)) (rows : List (List Value)) (after : Graph) → AllByRecursion Allowed q.clauses → IsGraph graph
      → Means q parameters most graph columns rows after → P graph after × IsGraph after
  means_law q parameters graph columns rows after may g h = steps_law parameters q.clauses may [] graph ([] ∷ []) after h.results g h.steps
