-- Making keeps the nodes that there are.
use Rattle.std.proofs.Common.{◌≡◌, ℕ, Bool, true, false, cond, List, [], ◌∷◌, ◌++◌, flat_map, Option, Some, None, is_some, Result, Ok, Err, refl, sym, ap, subst, ◌∙◌}
use Rattle.std.specs.FinMap.Entries as by_id
use Rattle.std.specs.Option.{IsSome}
use Rattle.std.specs.Ordering.{nat_cmp, eq_by_cmp}
use Rattle.std.proofs.lemmas.Cmp.{nat_cmp_total, eq_by_cmp_equiv}
use Rattle.pg_meaning.specs.Answer.{◌>>◌, unless}
use Rattle.pg_meaning.specs.Graph.{Graph, Node, Way, outgoing, incoming, both, add_node, has_node, node_at}
use Rattle.pg_meaning.specs.Meters.{test_counter}
use Rattle.pg_meaning.specs.Names.{in_byte_order}
use Rattle.pg_meaning.specs.Patterns.{node_name, nodes_of, texts_of, types_of, way_of}
use Rattle.pg_meaning.specs.Reading.{test_bound, test_nodes, test_paths}
use Rattle.pg_meaning.specs.Rows.{Row}
use Rattle.pg_meaning.specs.Tree.{NodePattern, PathPattern, RelationshipPattern}
use Rattle.pg_meaning.specs.Updates.{add_between, first_text}
use Rattle.pg_meaning.specs.Value.{Value, null, boolean, integer, text, list, mapping, node, relationship, path, Entries}
use Rattle.pg_meaning.specs.Walks.{bound_value}
use Rattle.pg_meaning.specs.declared.fault.Fault.{Fault}
use Rattle.pg_meaning.specs.declared.fault.Fault.TheVariants.{DeletedEntity}
use Rattle.pg_write_make.specs.Makings.{AreThere, Grows}
use Rattle.pg_write_make.specs.Outcomes.{Outcome, room_for, node_added, relationship_of}

-- ---- one more node

still_some : (b : Bool) (n : Node) (o : Option Node) → is_some o ≡ true → is_some (cond b (Some n) o) ≡ true
still_some true n o h = refl
still_some false n o h = h

module _ (labels : List (List ℕ)) (es : Entries) (graph : Graph) where
  abbrev new : Node
  new = record { labels = in_byte_order labels; properties = es }

  read : (n : ℕ) → node_at (add_node labels es graph) n ≡ cond (eq_by_cmp nat_cmp n graph.next_node) (Some new) (node_at graph n)
  read n = by_id.find-put nat_cmp nat_cmp_total n graph.next_node new graph.nodes

  grows_node : Grows graph (add_node labels es graph)
  grows_node n there = ap is_some (read n) ∙ still_some (eq_by_cmp nat_cmp n graph.next_node) new (node_at graph n) there

  there_now : has_node (add_node labels es graph) graph.next_node ≡ true
  there_now = ap is_some (read graph.next_node ∙ ap (λ b. cond b (Some new) (node_at graph graph.next_node)) (same_id graph.next_node))
    where
      same_id : (n : ℕ) → eq_by_cmp nat_cmp n n ≡ true
      same_id n = (eq_by_cmp_equiv nat_cmp_total).refl n

grows_between : (w : Way) (type : List ℕ) (left right : ℕ) (es : Entries) (graph : Graph) → Grows graph (add_between w type left right es graph)
grows_between outgoing type left right es graph n there = there
grows_between incoming type left right es graph n there = there
grows_between both type left right es graph n there = there

-- ---- what an element that was made says

made_of : (a b : Result (Unit {0}) Fault) (x g : Graph) → (a >> (b >> Ok x)) ≡ Ok g → x ≡ g
made_of (Ok u) (Ok v) x g h = cc
made_of (Ok u) (Err e) x g h = absurd cc
made_of (Err e) b x g h = absurd cc

pub added_grows : (max : ℕ) (o : Outcome) (n : NodePattern) (graph after : Graph) → node_added max o n graph ≡ Ok after → Grows graph after
added_grows max (Ok es) n graph after h = subst (λ (g : Graph). Grows graph g) (made_of (room_for max graph) (test_counter graph.next_node) (add_node (texts_of n.labels) es graph) after h) (grows_node (texts_of n.labels) es graph)
added_grows max (Err e) n graph after h = absurd cc

pub added_there : (max : ℕ) (o : Outcome) (n : NodePattern) (graph after : Graph) → node_added max o n graph ≡ Ok after → has_node after graph.next_node ≡ true
added_there max (Ok es) n graph after h = subst (λ (g : Graph). has_node g graph.next_node ≡ true) (made_of (room_for max graph) (test_counter graph.next_node) (add_node (texts_of n.labels) es graph) after h) (there_now (texts_of n.labels) es graph)
added_there max (Err e) n graph after h = absurd cc

pub joined_grows : (max : ℕ) (o : Outcome) (r : RelationshipPattern) (left right : ℕ) (graph after : Graph) → relationship_of max o r left right graph ≡ Ok after → Grows graph after
joined_grows max (Ok es) r left right graph after h =
    subst (λ (g : Graph). Grows graph g) (made_of (room_for max graph) (test_counter graph.next_relationship) (add_between (way_of r) (first_text (types_of r)) left right es graph) after h)
    (grows_between (way_of r) (first_text (types_of r)) left right es graph)
joined_grows max (Err e) r left right graph after h = absurd cc

-- ---- what growth keeps

pub grows_not : (graph : Graph) → Grows graph graph
grows_not graph n there = there

pub grows_twice : (a b c : Graph) → Grows a b → Grows b c → Grows a c
grows_twice a b c p q n there = q n (p n there)

pub there_grows : (before after : Graph) (ids : List ℕ) → Grows before after → AreThere before ids → AreThere after ids
there_grows before after [] grows there = tt
there_grows before after (i ∷ is) grows there = (grows i there.0, there_grows before after is grows there.1)

pub there_push : (graph : Graph) (ids : List ℕ) (id : ℕ) → AreThere graph ids → has_node graph id ≡ true → AreThere graph (ids ++ id ∷ [])
there_push graph [] id there now = (now, tt)
there_push graph (i ∷ is) id there now = (there.0, there_push graph is id there.1 now)

bound_grows : (before after : Graph) (o : Option Value) → Grows before after → test_bound false before o ≡ Ok tt → test_bound false after o ≡ Ok tt
bound_grows before after None grows h = refl
bound_grows before after (Some (node n)) grows h = ap (λ b. unless b DeletedEntity) (grows n (passed (has_node before n) h))
  where
    passed : (b : Bool) → unless b DeletedEntity ≡ Ok tt → b ≡ true
    passed true e = refl
    passed false e = absurd cc
bound_grows before after (Some null) grows h = absurd cc
bound_grows before after (Some (boolean b)) grows h = absurd cc
bound_grows before after (Some (integer b)) grows h = absurd cc
bound_grows before after (Some (text b)) grows h = absurd cc
bound_grows before after (Some (list b)) grows h = absurd cc
bound_grows before after (Some (mapping b)) grows h = absurd cc
bound_grows before after (Some (relationship b)) grows h = absurd cc
bound_grows before after (Some (path b)) grows h = absurd cc

pub both_passed : (a b : Result (Unit {0}) Fault) → (a >> b) ≡ Ok tt → (a ≡ Ok tt) × (b ≡ Ok tt)
both_passed (Ok u) b h = (refl, h)
both_passed (Err e) b h = absurd cc

pub tests_grow : (before after : Graph) (row : Row) (ns : List NodePattern) → Grows before after → test_nodes false before row ns ≡ Ok tt → test_nodes false after row ns ≡ Ok tt
tests_grow before after row [] grows h = refl
tests_grow before after row (n ∷ ns) grows h =
    let parts = both_passed (test_bound false before (bound_value (node_name n) row)) (test_nodes false before row ns) h in
    ap (λ r. r >> test_nodes false after row ns) (bound_grows before after (bound_value (node_name n) row) grows parts.0) ∙ tests_grow before after row ns grows parts.1

-- the nodes of variables, with a new one or none
pub bound_there : (o : Option (List ℕ)) (before after : Graph) (old named : List ℕ) (id : ℕ) → Grows before after → has_node after id ≡ true → (o ≡ None → named ≡ old) → (IsSome o → named ≡ old ++ id ∷ []) → AreThere before old → AreThere after named
bound_there None before after old named id grows now none some there = subst (λ (ids : List ℕ). AreThere after ids) (sym (none refl)) (there_grows before after old grows there)
bound_there (Some name) before after old named id grows now none some there = subst (λ (ids : List ℕ). AreThere after ids) (sym (some refl)) (there_push after old id (there_grows before after old grows there) now)

pub paths_grow : (before after : Graph) (row : Row) (ps : List PathPattern) → Grows before after → test_paths false before row ps ≡ Ok tt → test_paths false after row ps ≡ Ok tt
paths_grow before after row ps = tests_grow before after row (flat_map nodes_of ps)
