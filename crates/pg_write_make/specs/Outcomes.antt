-- What an element's expressions give, kept until the element is made; and the making of elements from it.
use Rattle.std.specs.Prelude.{ℕ, nat_lt, List, [], ◌∷◌, ◌++◌, map, Result, Ok, Err, Option, Some, None}
use Rattle.std.specs.Borrow.{Bor}
use Rattle.std.specs.Global.{Vec}
use Rattle.pg_meaning.specs.Answer.{◌>>=◌, ◌>>◌, unless}
use Rattle.pg_meaning.specs.Entries.{set_keys}
use Rattle.pg_meaning.specs.Graph.{Graph, element_count, add_node}
use Rattle.pg_meaning.specs.Meters.{Setting, test_counter}
use Rattle.pg_meaning.specs.Patterns.{nodes_of, node_name, texts_of, types_of, way_of, relationship_properties, single, Trail, Assignment}
use Rattle.pg_meaning.specs.Rows.{Row, bind_if_named}
use Rattle.pg_meaning.specs.Tree.{NodePattern, RelationshipPattern, PathPattern}
use Rattle.pg_meaning.specs.Updates.{Making, given_properties, first_text, add_between}
use Rattle.pg_meaning.specs.Value.{Value, node, Entries, no_entries}
use Rattle.pg_meaning.specs.Walks.{bound_value}
use Rattle.pg_meaning.specs.declared.fault.Fault.{Fault}
use Rattle.pg_meaning.specs.declared.fault.Fault.TheVariants.{ElementQuota, TypeFault}
use Rattle.pg_store.specs.Stores.{pairs_of}
use Rattle.pg_value_core.specs.declared.value.Value as code

-- an element's properties, or the fault that stands in their place
abbrev pub Outcome : Type 0
Outcome = Result Entries Fault

abbrev pub outcome_view : Result (Vec (Bor (List ℕ) × code.Value)) Fault → Outcome
outcome_view (Ok pairs) = Ok (set_keys (pairs_of pairs.items) no_entries)
outcome_view (Err e) = Err e

-- ---- the definition's making, from the outcomes and the quota of elements alone

abbrev pub room_for : (max_elements : ℕ) → Graph → Result (Unit {0}) Fault
room_for max_elements graph = unless (nat_lt (element_count graph) max_elements) ElementQuota

abbrev pub room_and_id : (max_elements next : ℕ) → Graph → Result (Unit {0}) Fault
room_and_id max_elements next graph = room_for max_elements graph >> test_counter next

-- a node that is new in the graph
abbrev pub node_added : (max_elements : ℕ) → Outcome → NodePattern → Graph → Result Graph Fault
node_added max_elements outcome n graph = do
  properties ← outcome
  room_for max_elements graph
  test_counter graph.next_node
  Ok (add_node (texts_of n.labels) properties graph)

-- the same with the labels as they stand in the code
abbrev pub labelled_added : (max_elements : ℕ) → Outcome → (labels : List (List ℕ)) → Graph → Result Graph Fault
labelled_added max_elements outcome labels graph = do
  properties ← outcome
  room_for max_elements graph
  test_counter graph.next_node
  Ok (add_node labels properties graph)

-- the node that stands for a variable, if it has one already
abbrev pub node_found : Option Value → Result (Option ℕ) Fault
node_found None = Ok None
node_found (Some (node id)) = Ok (Some id)
node_found (Some v) = Err TypeFault

abbrev pub with_id : ℕ → Making → Making
with_id id m = record { graph = m.graph; bound = m.bound; ids = m.ids ++ id ∷ [] }

abbrev pub with_new : NodePattern → Making → Graph → Making
with_new n m after = record { graph = after; bound = bind_if_named (node_name n) (node m.graph.next_node) m.bound; ids = m.ids ++ m.graph.next_node ∷ [] }

-- the node of a variable that has none yet
abbrev pub node_after : (max_elements : ℕ) → Outcome → NodePattern → Making → Result Making Fault
node_after max_elements outcome n m = node_added max_elements outcome n m.graph >>= λ after. Ok (with_new n m after)

abbrev pub node_of : (max_elements : ℕ) → Outcome → NodePattern → Making → Result Making Fault
node_of max_elements outcome n m = node_found (bound_value (node_name n) m.bound) >>= λ found. elim found [
  | Some id ↦ Ok (with_id id m)
  | None ↦ node_after max_elements outcome n m
]

abbrev pub nodes_made : (max_elements : ℕ) → List Outcome → List NodePattern → Making → Result Making Fault
nodes_made max_elements os [] m = Ok m
nodes_made max_elements [] (n ∷ ns) m = Ok m
nodes_made max_elements (o ∷ os) (n ∷ ns) m = node_of max_elements o n m >>= nodes_made max_elements os ns

abbrev pub relationship_of : (max_elements : ℕ) → Outcome → RelationshipPattern → (left right : ℕ) → Graph → Result Graph Fault
relationship_of max_elements outcome r left right graph = do
  properties ← outcome
  room_for max_elements graph
  test_counter graph.next_relationship
  Ok (add_between (way_of r) (first_text (types_of r)) left right properties graph)

-- the relationships between the nodes, and their ids
abbrev pub hops_made : (max_elements : ℕ) → List Outcome → List RelationshipPattern → (left : ℕ) → List ℕ → Graph → Result (Graph × List ℕ) Fault
hops_made max_elements os [] left ns graph = Ok (graph, [])
hops_made max_elements os (r ∷ rs) left [] graph = Ok (graph, [])
hops_made max_elements [] (r ∷ rs) left (n ∷ ns) graph = Ok (graph, [])
hops_made max_elements (o ∷ os) (r ∷ rs) left (n ∷ ns) graph = do
  after ← relationship_of max_elements o r left n graph
  made ← hops_made max_elements os rs n ns after
  Ok (made.0, graph.next_relationship ∷ made.1)

abbrev pub bonds_made : (max_elements : ℕ) → List Outcome → List RelationshipPattern → List ℕ → Graph → Result (Graph × List ℕ) Fault
bonds_made max_elements os rs [] graph = Ok (graph, [])
bonds_made max_elements os rs (n ∷ ns) graph = hops_made max_elements os rs n ns graph

abbrev pub relationships_of : PathPattern → List RelationshipPattern
relationships_of p = map (λ h. h.0) p.hops

abbrev pub trail_of : (nodes relationships : List ℕ) → Trail
trail_of ns rs = record { nodes = ns; bonds = map single rs }

-- what the expressions of a path's nodes give, and those of its relationships
abbrev pub Outcomes : Type 0
Outcomes = List Outcome × List Outcome

abbrev pub path_made : (max_elements : ℕ) → Outcomes → PathPattern → (Graph × Row) → Result (Graph × Row × Trail) Fault
path_made max_elements os p so_far = do
  let none : Making = record { graph = so_far.0; bound = so_far.1; ids = [] }
  m ← nodes_made max_elements os.0 (nodes_of p) none
  made ← bonds_made max_elements os.1 (relationships_of p) m.ids m.graph
  Ok (made.0, m.bound, trail_of m.ids made.1)

abbrev pub paths_made : (max_elements : ℕ) → List Outcomes → List PathPattern → (Graph × Row) → Result (Graph × Assignment) Fault
paths_made max_elements os [] so_far = Ok (so_far.0, [])
paths_made max_elements [] (p ∷ ps) so_far = Ok (so_far.0, [])
paths_made max_elements (o ∷ os) (p ∷ ps) so_far = do
  made ← path_made max_elements o p so_far
  others ← paths_made max_elements os ps (made.0, made.1)
  Ok (others.0, made.2 ∷ others.1)

-- ---- the outcomes at a row, of the graph that it found

abbrev pub node_outcome : Setting → Graph → Row → NodePattern → Outcome
node_outcome s graph row n = given_properties s.parameters graph row n.properties

abbrev pub relationship_outcome : Setting → Graph → Row → RelationshipPattern → Outcome
relationship_outcome s graph row r = given_properties s.parameters graph row (relationship_properties r)

abbrev pub path_outcomes : Setting → Graph → Row → PathPattern → Outcomes
path_outcomes s graph row p = (map (node_outcome s graph row) (nodes_of p), map (relationship_outcome s graph row) (relationships_of p))
