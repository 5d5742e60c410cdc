-- How far the making of a row's elements came, and what each new element adds.
use Rattle.std.proofs.Common.{◌≡◌, ◌≢◌, ℕ, ◌+◌, ◌<◌, ◌≤◌, max, nat_lt, true, false, cond, not, ◌⊎◌, inl, inr, List, [], ◌∷◌, ◌++◌, length, Option, Some, None, is_some, IsTrue, Ok, refl, sym, ap, subst, ◌∙◌, add-zero, append-nil, arith, le_trans, lt_trans, lt_of_lt_of_le, lt_irrefl}
use Rattle.std.proofs.Math.Nat.{le-max_left, le-max_right}
use Rattle.std.proofs.lemmas.List.{length-append}
use Rattle.std.specs.List.{AllByRecursion}
use Rattle.pg_soundness.proofs.MakingPlaces.{is_new, known_with, known, new_places_with, known_joined}
use Rattle.pg_soundness.proofs.MakingRows.{binds_known, still_bound, value_still_bound, now_bound, bound_before}
use Rattle.pg_meaning.specs.Agreement.{given_in}
use Rattle.pg_meaning.specs.Answer.{unless}
use Rattle.pg_soundness.proofs.MakingTurns.{below, given_rises, put_is_longer, next_below}
use Rattle.pg_soundness.proofs.RowNames.{BindsOnly}
use Rattle.pg_meaning.specs.Graph.{Graph, Node, Relationship, IsGraph, Way, outgoing, incoming, both, node_at, relationship_at, has_node, element_count, add_node, add_relationship}
use Rattle.pg_meaning.specs.GraphLaws.{add_node_keeps_graph, add_node_adds, add_relationship_keeps_graph, add_relationship_adds, still_there, found_among}
use Rattle.pg_meaning.specs.Lists.{AllPairsByRecursion}
use Rattle.pg_meaning.specs.ListsLaws.{all_weaker, all_joined}
use Rattle.pg_meaning.specs.Meaning.{Made, IsMadeNode, IsMadeRelationship, HasEnds, StandsFor, new_places}
use Rattle.pg_meaning.specs.Meters.{Setting, greatest_id}
use Rattle.pg_meaning.specs.Names.{is_among, in_byte_order}
use Rattle.pg_meaning.specs.Patterns.{node_name, texts_of, types_of, way_of, relationship_properties}
use Rattle.pg_meaning.specs.Reading.{test_bound}
use Rattle.pg_meaning.specs.Rows.{Row, value_in, bind_if_named}
use Rattle.pg_meaning.specs.Tree.{NodePattern, RelationshipPattern}
use Rattle.pg_meaning.specs.Updates.{given_properties, first_text, add_between}
use Rattle.pg_meaning.specs.Value.{Value, null, boolean, integer, text, list, mapping, node, relationship, path, Entries}
use Rattle.pg_meaning.specs.Walks.{bound_value}
use Rattle.pg_meaning.specs.declared.fault.Fault.TheVariants.{DeletedEntity}

-- ---- pairs

pub pairs_with : {X : Type 0} (R : X → X → Type 0) (xs : List X) (y : X) → AllPairsByRecursion R xs → AllByRecursion (λ x. R x y) xs → AllPairsByRecursion R (xs ++ y ∷ [])
pairs_with R [] y h k = (tt, tt)
pairs_with R (x ∷ xs) y h k = (all_joined (R x) xs (y ∷ []) h.0 (k.0, tt), pairs_with R xs y h.1 k.1)

pub all_pairs : {X : Type 0} (P : X → Type 0) (R : X → X → Type 0) → ((x y : X) → P x → P y → R x y) → (xs : List X) → AllByRecursion P xs → AllPairsByRecursion R xs
all_pairs P R f [] h = tt
all_pairs P R f (x ∷ xs) h = (all_weaker P (R x) (λ y p. f x y h.0 p) xs h.1, all_pairs P R f xs h.1)

-- ---- counting

grown_by_one : (b c k : ℕ) → b ≡ c + k → b + 1 ≡ c + (k + 1)
grown_by_one b c k e = omega arith

room_kept : (after before most bound : ℕ) → after ≤ before + 1 → before < most → after ≤ max most bound
room_kept after before most bound h l = le_trans (fits after before most h l) (le-max_left most bound)
  where
    fits : (after before most : ℕ) → after ≤ before + 1 → before < most → after ≤ most
    fits after before most h l = omega arith

counter_kept : (n most bound : ℕ) → n < most → n + 1 ≤ max most bound
counter_kept n most bound l = le_trans (fits n most l) (le-max_left most bound)
  where
    fits : (n most : ℕ) → n < most → n + 1 ≤ most
    fits n most l = omega arith

node_counted : (new old others start made more : ℕ) → new ≤ old + 1 → old + others ≤ start + made + more → new + others ≤ start + (made + 1) + more
node_counted new old others start made more h k = omega arith

relationship_counted : (new old nodes start made more : ℕ) → new ≤ old + 1 → nodes + old ≤ start + made + more → nodes + new ≤ start + made + (more + 1)
relationship_counted new old nodes start made more h k = omega arith

one_more : (nodes new old : ℕ) → new ≤ old + 1 → nodes + new ≤ (nodes + old) + 1
one_more nodes new old h = omega arith

one_more_before : (others new old : ℕ) → new ≤ old + 1 → new + others ≤ (old + others) + 1
one_more_before others new old h = omega arith

from_start : (n c k : ℕ) → n ≡ c + k → c ≤ n
from_start n c k e = omega arith

-- ---- how far

-- a place whose variable, if any, stands for its node
abbrev pub IsNamed : Row → NodePattern × ℕ → Type 0
IsNamed bound p = (node_name p.0 ≡ None) ⊎ (bound_value (node_name p.0) bound ≡ Some (node p.1))

-- from the row's graph: what was made at these places and hops, and the row with the node variables
pub record Progress (s : Setting) (graph : Graph) (row : Row) (after : Graph) (bound : Row) (ps : List (NodePattern × ℕ)) (ms : List Made) : Type 0 where
  pub stands : AllByRecursion (StandsFor row) ps
  pub named : AllByRecursion (IsNamed bound) ps
  pub live : AllByRecursion (λ p. IsTrue (has_node after p.1)) ps
  pub kept : (q : List ℕ) (v : Value) → value_in q row ≡ Some v → value_in q bound ≡ Some v
  pub earlier : (q : List ℕ) (v : Value) → value_in q bound ≡ Some v → (value_in q row ≡ Some v) ⊎ ((id : ℕ) × (v ≡ node id) × IsTrue (has_node after id))
  pub binds : (q : List ℕ) → is_some (value_in q bound) ≡ is_among (known s.scope ps) q
  pub nodes : AllByRecursion (IsMadeNode (given_in s) graph row after) (new_places s.scope ps)
  pub node_ids : AllPairsByRecursion (λ p q. p.1 ≢ q.1) (new_places s.scope ps)
  pub next_node : after.next_node ≡ graph.next_node + length (new_places s.scope ps)
  pub relationships : AllByRecursion (IsMadeRelationship (given_in s) graph row after) ms
  pub relationship_ids : AllPairsByRecursion (λ m n. m.id ≢ n.id) ms
  pub next_relationship : after.next_relationship ≡ graph.next_relationship + length ms
  pub old_nodes : (n : ℕ) → n < graph.next_node → node_at after n ≡ node_at graph n
  pub old_relationships : (r : ℕ) → r < graph.next_relationship → relationship_at after r ≡ relationship_at graph r
  pub graph_again : IsGraph after
  pub room : element_count after ≤ max s.quota.max_elements (element_count graph)
  pub node_counter : after.next_node ≤ max greatest_id graph.next_node
  pub relationship_counter : after.next_relationship ≤ max greatest_id graph.next_relationship
  pub count : element_count after ≤ element_count graph + length (new_places s.scope ps) + length ms

module _ (s : Setting) (graph : Graph) (row : Row) where
  pub at_start : IsGraph graph → BindsOnly s.scope row → Progress s graph row graph row [] []
  at_start g h = record {
    stands = tt;
    named = tt;
    live = tt;
    kept = λ q v e. e;
    earlier = λ q v e. inl e;
    binds = h;
    nodes = tt;
    node_ids = tt;
    next_node = sym (add-zero graph.next_node);
    relationships = tt;
    relationship_ids = tt;
    next_relationship = sym (add-zero graph.next_relationship);
    old_nodes = λ n l. refl;
    old_relationships = λ r l. refl;
    graph_again = g;
    room = le-max_right s.quota.max_elements (element_count graph);
    node_counter = le-max_right greatest_id graph.next_node;
    relationship_counter = le-max_right greatest_id graph.next_relationship;
    count = as_many (element_count graph);
  }
    where
      as_many : (n : ℕ) → n ≤ n + 0 + 0
      as_many n = omega arith

  module _ (after : Graph) (bound : Row) (ps : List (NodePattern × ℕ)) (ms : List Made) (so_far : Progress s graph row after bound ps ms) where
    -- a node of the row's graph is still there
    old_is_there : (n : ℕ) → IsGraph graph → IsTrue (has_node graph n) → IsTrue (has_node after n)
    old_is_there n g h = by_found (node_at graph n) refl h
      where
        by_found : (o : Option Node) → node_at graph n ≡ o → IsTrue (is_some o) → IsTrue (has_node after n)
        by_found None e h = cc
        by_found (Some x) e h = ap is_some (so_far.old_nodes n (found_among (λ e. e.0 < graph.next_node) n x graph.nodes g.nodes_below e) ∙ e)

    unless_live : (n : ℕ) → unless (has_node graph n) DeletedEntity ≡ Ok tt → IsTrue (has_node graph n)
    unless_live n e = elim (has_node graph n) as (λ b. unless b DeletedEntity ≡ Ok tt → b ≡ true) [ true ↦ λ e. refl | false ↦ λ e. cc ] e

    live_value : (v : Value) → IsGraph graph → test_bound false graph (Some v) ≡ Ok tt → (id : ℕ) × (v ≡ node id) × IsTrue (has_node after id)
    live_value (node n) g e = (n, refl, old_is_there n g (unless_live n e))
    live_value null g e = cc
    live_value (boolean b) g e = cc
    live_value (integer i) g e = cc
    live_value (text t) g e = cc
    live_value (list vs) g e = cc
    live_value (mapping es) g e = cc
    live_value (relationship r) g e = cc
    live_value (path ids) g e = cc

    -- what a node variable stands for by now
    pub bound_is_live : (name : Option (List ℕ)) (v : Value) → IsGraph graph → test_bound false graph (bound_value name row) ≡ Ok tt → bound_value name bound ≡ Some v
        → (id : ℕ) × (v ≡ node id) × IsTrue (has_node after id)
    bound_is_live None v g t e = cc
    bound_is_live (Some name) v g t e = by_origin (so_far.earlier name v e)
      where
        by_origin : (value_in name row ≡ Some v) ⊎ ((id : ℕ) × (v ≡ node id) × IsTrue (has_node after id)) → (id : ℕ) × (v ≡ node id) × IsTrue (has_node after id)
        by_origin (inl f) = live_value v g (sym (ap (test_bound false graph) f) ∙ t)
        by_origin (inr f) = f

    not_there : (o : Option Value) → o ≡ None → is_some o ≡ false
    not_there o e = ap is_some e

    pub newness : (name : Option (List ℕ)) → bound_value name bound ≡ None → is_new (known s.scope ps) name ≡ true
    newness None e = refl
    newness (Some name) e = ap not (sym (so_far.binds name) ∙ ap is_some e)

    oldness : (name : Option (List ℕ)) (v : Value) → bound_value name bound ≡ Some v → is_new (known s.scope ps) name ≡ false
    oldness None v e = cc
    oldness (Some name) v e = ap not (sym (so_far.binds name) ∙ ap is_some e)

    free_in_row : (name : Option (List ℕ)) → bound_value name bound ≡ None → bound_value name row ≡ None
    free_in_row None e = refl
    free_in_row (Some name) e = by_value (value_in name row) refl
      where
        by_value : (o : Option Value) → value_in name row ≡ o → value_in name row ≡ None
        by_value None f = f
        by_value (Some v) f = let g = so_far.kept name v f in cc

    stands_or_free : (name : Option (List ℕ)) (v : Value) → bound_value name bound ≡ Some v → (bound_value name row ≡ None) ⊎ (bound_value name row ≡ Some v)
    stands_or_free None v e = cc
    stands_or_free (Some name) v e = by_value (value_in name row) refl
      where
        by_value : (o : Option Value) → value_in name row ≡ o → (value_in name row ≡ None) ⊎ (value_in name row ≡ Some v)
        by_value None f = inl f
        by_value (Some w) f = inr (f ∙ sym (so_far.kept name w f) ∙ e)

    -- the names behind a place
    names_with : (p : NodePattern × ℕ) → known s.scope (ps ++ p ∷ []) ≡ known_with (known s.scope ps) (node_name p.0)
    names_with p = known_joined s.scope ps (p ∷ [])

    old_names : (name : Option (List ℕ)) (v : Value) → bound_value name bound ≡ Some v → known_with (known s.scope ps) name ≡ known s.scope ps
    old_names None v e = refl
    old_names (Some name) v e = ap (λ b. cond b (known s.scope ps) (name ∷ known s.scope ps)) (sym (so_far.binds name) ∙ ap is_some e)

    -- a bound place
    pub with_old : (n : NodePattern) (id : ℕ) → bound_value (node_name n) bound ≡ Some (node id) → IsTrue (has_node after id) → Progress s graph row after bound (ps ++ (n, id) ∷ []) ms
    with_old n id e there =
        let places : new_places s.scope (ps ++ (n, id) ∷ []) ≡ new_places s.scope ps =
        new_places_with s.scope ps (n, id) ∙ ap (λ b. new_places s.scope ps ++ cond b ((n, id) ∷ []) []) (oldness (node_name n) (node id) e) ∙ append-nil (new_places s.scope ps) in
        record {
          stands = all_joined (StandsFor row) ps ((n, id) ∷ []) so_far.stands (stands_or_free (node_name n) (node id) e, tt);
          named = all_joined (IsNamed bound) ps ((n, id) ∷ []) so_far.named (inr e, tt);
          live = all_joined (λ p. IsTrue (has_node after p.1)) ps ((n, id) ∷ []) so_far.live (there, tt);
          kept = so_far.kept;
          earlier = so_far.earlier;
          binds = λ q. so_far.binds q ∙ ap (λ names. is_among names q) (sym (names_with (n, id) ∙ old_names (node_name n) (node id) e));
          nodes = subst (AllByRecursion (IsMadeNode (given_in s) graph row after)) (sym places) so_far.nodes;
          node_ids = subst (AllPairsByRecursion (λ p q. p.1 ≢ q.1)) (sym places) so_far.node_ids;
          next_node = so_far.next_node ∙ ap (λ xs. graph.next_node + length xs) (sym places);
          relationships = so_far.relationships;
          relationship_ids = so_far.relationship_ids;
          next_relationship = so_far.next_relationship;
          old_nodes = so_far.old_nodes;
          old_relationships = so_far.old_relationships;
          graph_again = so_far.graph_again;
          room = so_far.room;
          node_counter = so_far.node_counter;
          relationship_counter = so_far.relationship_counter;
          count = subst (λ xs. element_count after ≤ element_count graph + length xs + length ms) (sym places) so_far.count;
        }

    -- a new node
    pub with_new : (n : NodePattern) (props : Entries) → bound_value (node_name n) bound ≡ None → given_properties s.parameters graph row n.properties ≡ Ok props
        → nat_lt (element_count after) s.quota.max_elements ≡ true → nat_lt after.next_node greatest_id ≡ true
        → Progress s graph row (add_node (texts_of n.labels) props after) (bind_if_named (node_name n) (node after.next_node) bound) (ps ++ (n, after.next_node) ∷ []) ms
    with_new n props e given_by roomy counted =
        let id = after.next_node in
        let next = add_node (texts_of n.labels) props after in
        let p : NodePattern × ℕ = (n, id) in
        let more = bind_if_named (node_name n) (node id) bound in
        let adds = add_node_adds (texts_of n.labels) props after in
        let places : new_places s.scope (ps ++ p ∷ []) ≡ new_places s.scope ps ++ p ∷ [] =
        new_places_with s.scope ps p ∙ ap (λ b. new_places s.scope ps ++ cond b (p ∷ []) []) (newness (node_name n) e) in
        let made : length (new_places s.scope (ps ++ p ∷ [])) ≡ length (new_places s.scope ps) + 1 =
        ap length places ∙ length-append (new_places s.scope ps) (p ∷ []) in
        let begins : graph.next_node ≤ id = from_start id graph.next_node (length (new_places s.scope ps)) so_far.next_node in
        let stays : (m : ℕ) → IsTrue (has_node after m) → IsTrue (has_node next m) = λ m. still_there m id _ after.nodes in
        let grows : length next.nodes ≤ length after.nodes + 1 = put_is_longer id _ after.nodes in
        record {
          stands = all_joined (StandsFor row) ps (p ∷ []) so_far.stands (inl (free_in_row (node_name n) e), tt);
          named = all_joined (IsNamed more) ps (p ∷ []) (all_weaker (IsNamed bound) (IsNamed more) (λ x. still_named x) ps so_far.named) (now_bound (node_name n) (node id) bound e, tt);
          live = all_joined (λ x. IsTrue (has_node next x.1)) ps (p ∷ []) (all_weaker _ _ (λ x. stays x.1) ps so_far.live) (ap is_some adds.itself, tt);
          kept = λ q v h. still_bound (node_name n) (node id) v q bound (so_far.kept q v h);
          earlier = λ q v h. by_origin q v (bound_before (node_name n) (node id) v q bound h);
          binds = λ q. binds_known (known s.scope ps) bound (node_name n) (node id) so_far.binds q ∙ ap (λ names. is_among names q) (sym (names_with p));
          nodes = subst (AllByRecursion (IsMadeNode (given_in s) graph row next)) (sym places)
              (all_joined (IsMadeNode (given_in s) graph row next) (new_places s.scope ps) (p ∷ [])
              (all_weaker (IsMadeNode (given_in s) graph row after) (IsMadeNode (given_in s) graph row next) (λ x. still_made x) (new_places s.scope ps) so_far.nodes)
              ((record { labels = in_byte_order (texts_of n.labels); properties = props }, begins, next_below id, adds.itself, refl, given_by), tt));
          node_ids = subst (AllPairsByRecursion (λ x y. x.1 ≢ y.1)) (sym places)
              (pairs_with (λ x y. x.1 ≢ y.1) (new_places s.scope ps) p so_far.node_ids
              (all_weaker (IsMadeNode (given_in s) graph row after) (λ x. x.1 ≢ id) (λ x h same. lt_irrefl id (subst (λ k. k < id) same h.2)) (new_places s.scope ps) so_far.nodes));
          next_node = grown_by_one id graph.next_node (length (new_places s.scope ps)) so_far.next_node ∙ ap (λ k. graph.next_node + k) (sym made);
          relationships = so_far.relationships;
          relationship_ids = so_far.relationship_ids;
          next_relationship = so_far.next_relationship;
          old_nodes = λ m l. adds.others m (λ same. lt_irrefl id (subst (λ k. k < id) same (lt_of_lt_of_le l begins))) ∙ so_far.old_nodes m l;
          old_relationships = so_far.old_relationships;
          graph_again = add_node_keeps_graph (texts_of n.labels) props after (given_rises s graph row n.properties props given_by) so_far.graph_again;
          room = room_kept (element_count next) (element_count after) s.quota.max_elements (element_count graph) (one_more_before (length after.relationships) (length next.nodes) (length after.nodes) grows) (below _ _ roomy);
          node_counter = counter_kept id greatest_id graph.next_node (below _ _ counted);
          relationship_counter = so_far.relationship_counter;
          count = subst (λ k. element_count next ≤ element_count graph + k + length ms) (sym made)
              (node_counted (length next.nodes) (length after.nodes) (length after.relationships) (element_count graph) (length (new_places s.scope ps)) (length ms) grows so_far.count);
        }
      where
        still_named : (x : NodePattern × ℕ) → IsNamed bound x → IsNamed (bind_if_named (node_name n) (node after.next_node) bound) x
        still_named x (inl h) = inl h
        still_named x (inr h) = inr (value_still_bound (node_name n) (node after.next_node) (node x.1) (node_name x.0) bound h)

        still_made : (x : NodePattern × ℕ) → IsMadeNode (given_in s) graph row after x → IsMadeNode (given_in s) graph row (add_node (texts_of n.labels) props after) x
        still_made x h = (
          h.0,
          h.1,
          lt_trans h.2 (next_below after.next_node),
          (add_node_adds (texts_of n.labels) props after).others x.1 (λ same. lt_irrefl after.next_node (subst (λ k. k < after.next_node) same h.2)) ∙ h.3,
          h.4,
          h.5,
        )

        by_origin : (q : List ℕ) (v : Value) → (value_in q bound ≡ Some v) ⊎ (v ≡ node after.next_node)
            → (value_in q row ≡ Some v) ⊎ ((id : ℕ) × (v ≡ node id) × IsTrue (has_node (add_node (texts_of n.labels) props after) id))
        by_origin q v (inr same) = inr (after.next_node, same, ap is_some (add_node_adds (texts_of n.labels) props after).itself)
        by_origin q v (inl h) = by_earlier (so_far.earlier q v h)
          where
            by_earlier : (value_in q row ≡ Some v) ⊎ ((id : ℕ) × (v ≡ node id) × IsTrue (has_node after id))
                → (value_in q row ≡ Some v) ⊎ ((id : ℕ) × (v ≡ node id) × IsTrue (has_node (add_node (texts_of n.labels) props after) id))
            by_earlier (inl f) = inl f
            by_earlier (inr f) = inr (f.0, f.1, still_there f.0 after.next_node _ after.nodes f.2)

    abbrev hop_made : RelationshipPattern → (left right : ℕ) → Made
    hop_made r left right = record { pattern = r; left = left; right = right; id = after.next_relationship }

    abbrev new_relationship : RelationshipPattern → (source target : ℕ) → Entries → Relationship
    new_relationship r source target props = record { type = first_text (types_of r); source = source; target = target; properties = props }

    between : (r : RelationshipPattern) (left right source target : ℕ) (props : Entries) → HasEnds (way_of r) (hop_made r left right) (new_relationship r source target props)
        → given_properties s.parameters graph row (relationship_properties r) ≡ Ok props → IsTrue (has_node after source) → IsTrue (has_node after target)
        → nat_lt (element_count after) s.quota.max_elements ≡ true → nat_lt after.next_relationship greatest_id ≡ true
        → Progress s graph row (add_relationship (first_text (types_of r)) source target props after) bound ps (ms ++ hop_made r left right ∷ [])
    between r left right source target props ends given_by from to roomy counted =
        let id = after.next_relationship in
        let next = add_relationship (first_text (types_of r)) source target props after in
        let m = hop_made r left right in
        let adds = add_relationship_adds (first_text (types_of r)) source target props after in
        let made : length (ms ++ m ∷ []) ≡ length ms + 1 = length-append ms (m ∷ []) in
        let begins : graph.next_relationship ≤ id = from_start id graph.next_relationship (length ms) so_far.next_relationship in
        let grows : length next.relationships ≤ length after.relationships + 1 = put_is_longer id _ after.relationships in
        record {
          stands = so_far.stands;
          named = so_far.named;
          live = so_far.live;
          kept = so_far.kept;
          earlier = so_far.earlier;
          binds = so_far.binds;
          nodes = so_far.nodes;
          node_ids = so_far.node_ids;
          next_node = so_far.next_node;
          relationships = all_joined (IsMadeRelationship (given_in s) graph row next) ms (m ∷ [])
              (all_weaker (IsMadeRelationship (given_in s) graph row after) (IsMadeRelationship (given_in s) graph row next) (λ x. still_made x) ms so_far.relationships)
              ((new_relationship r source target props, begins, next_below id, adds.itself, refl, ends, given_by), tt);
          relationship_ids = pairs_with (λ x y. x.id ≢ y.id) ms m so_far.relationship_ids
              (all_weaker (IsMadeRelationship (given_in s) graph row after) (λ x. x.id ≢ id) (λ x h same. lt_irrefl id (subst (λ k. k < id) same h.2)) ms so_far.relationships);
          next_relationship = grown_by_one id graph.next_relationship (length ms) so_far.next_relationship ∙ ap (λ k. graph.next_relationship + k) (sym made);
          old_nodes = so_far.old_nodes;
          old_relationships = λ q l. adds.others q (λ same. lt_irrefl id (subst (λ k. k < id) same (lt_of_lt_of_le l begins))) ∙ so_far.old_relationships q l;
          graph_again = add_relationship_keeps_graph (first_text (types_of r)) source target props after (given_rises s graph row (relationship_properties r) props given_by) from to so_far.graph_again;
          room = room_kept (element_count next) (element_count after) s.quota.max_elements (element_count graph) (one_more (length after.nodes) (length next.relationships) (length after.relationships) grows) (below _ _ roomy);
          node_counter = so_far.node_counter;
          relationship_counter = counter_kept id greatest_id graph.next_relationship (below _ _ counted);
          count = subst (λ k. element_count next ≤ element_count graph + length (new_places s.scope ps) + k) (sym made)
              (relationship_counted (length next.relationships) (length after.relationships) (length after.nodes) (element_count graph) (length (new_places s.scope ps)) (length ms) grows so_far.count);
        }
      where
        still_made : (x : Made) → IsMadeRelationship (given_in s) graph row after x → IsMadeRelationship (given_in s) graph row (add_relationship (first_text (types_of r)) source target props after) x
        still_made x h = (
          h.0,
          h.1,
          lt_trans h.2 (next_below after.next_relationship),
          (add_relationship_adds (first_text (types_of r)) source target props after).others x.id (λ same. lt_irrefl after.next_relationship (subst (λ k. k < after.next_relationship) same h.2)) ∙ h.3,
          h.4,
          h.5,
          h.6,
        )

    -- a new relationship
    pub with_relationship : (r : RelationshipPattern) (left right : ℕ) (props : Entries) → given_properties s.parameters graph row (relationship_properties r) ≡ Ok props
        → IsTrue (has_node after left) → IsTrue (has_node after right)
        → nat_lt (element_count after) s.quota.max_elements ≡ true → nat_lt after.next_relationship greatest_id ≡ true
        → Progress s graph row (add_between (way_of r) (first_text (types_of r)) left right props after) bound ps (ms ++ record { pattern = r; left = left; right = right; id = after.next_relationship } ∷ [])
    with_relationship r left right props given_by from to roomy counted = by_way (way_of r) refl
      where
        by_way : (w : Way) → way_of r ≡ w → Progress s graph row (add_between w (first_text (types_of r)) left right props after) bound ps (ms ++ hop_made r left right ∷ [])
        by_way outgoing e = between r left right left right props (subst (λ w. HasEnds w (hop_made r left right) (new_relationship r left right props)) (sym e) (refl, refl)) given_by from to roomy counted
        by_way incoming e = between r left right right left props (subst (λ w. HasEnds w (hop_made r left right) (new_relationship r right left props)) (sym e) (refl, refl)) given_by to from roomy counted
        by_way both e = between r left right left right props (subst (λ w. HasEnds w (hop_made r left right) (new_relationship r left right props)) (sym e) (refl, refl)) given_by from to roomy counted
