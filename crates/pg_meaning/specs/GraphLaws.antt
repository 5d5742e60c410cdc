-- Each change keeps what a graph is, under its condition; the changed element reads as changed, and each other as before.
use Rattle.std.proofs.Common.{◌≡◌, ℕ, ◌+◌, ◌<◌, ◌≢◌, Bool, true, false, cond, not, List, [], ◌∷◌, Some, None, is_some, Less, Equal, Greater, T, IsTrue, option_map, is_eq, refl, sym, ap, subst, ◌∙◌, arith}
use Rattle.std.proofs.lemmas.Cmp.{nat_cmp_total}
use Rattle.std.specs.Cmp.{tied_itself}
use Rattle.std.specs.FinMap.{nat_cmp-IsAntisymmetric}
use Rattle.std.specs.FinMap.Entries as by_id
use Rattle.std.specs.List.{AllByRecursion}
use Rattle.std.specs.List.Sorted.{IsStrictlySortedBy}
use Rattle.std.specs.Ordering.{nat_cmp, eq_by_cmp}
use Rattle.pg_meaning.specs.Entries.{are_rising}
use Rattle.pg_meaning.specs.Graph.{Graph, Node, Relationship, IsGraph, empty_graph, node_at, relationship_at, has_node, contains_id, add_node, add_relationship, change_node, change_relationship, remove_elements}
use Rattle.pg_meaning.specs.ListsLaws.{all_weaker, all_both}
use Rattle.pg_meaning.specs.Names.{in_byte_order}
use Rattle.pg_meaning.specs.NamesLaws.{in_byte_order_rises}
use Rattle.pg_meaning.specs.Order.{text_order}
use Rattle.pg_meaning.specs.Value.{Entries}

-- ---- elements by id

true_from : (b : Bool) → T b → b ≡ true
true_from true t = refl
true_from false t = absurd t

holds : (b : Bool) → b ≡ true → T b
holds b e = subst T (sym e) tt

apart : (q k : ℕ) → q ≢ k → eq_by_cmp nat_cmp q k ≡ false
apart q k h = elim (nat_cmp q k) as (λ r. nat_cmp q k ≡ r → is_eq r ≡ false) [
  | Less ↦ λ e. refl
  | Equal ↦ λ e. absurd (h (nat_cmp-IsAntisymmetric q k e))
  | Greater ↦ λ e. refl
] refl

module _ {X : Type 0} where
  found_itself : (k : ℕ) (v : X) (es : List (ℕ × X)) → by_id.find nat_cmp k (by_id.put nat_cmp k v es) ≡ Some v
  found_itself k v es = by_id.find-put nat_cmp nat_cmp_total k k v es ∙ ap (λ r. cond (is_eq r) (Some v) (by_id.find nat_cmp k es)) (tied_itself nat_cmp_total k)

  found_other : (q k : ℕ) (v : X) (es : List (ℕ × X)) → q ≢ k → by_id.find nat_cmp q (by_id.put nat_cmp k v es) ≡ by_id.find nat_cmp q es
  found_other q k v es h = by_id.find-put nat_cmp nat_cmp_total q k v es ∙ ap (λ b. cond b (Some v) (by_id.find nat_cmp q es)) (apart q k h)

  -- who is there stays, when another is put
  pub still_there : (q k : ℕ) (v : X) (es : List (ℕ × X)) → is_some (by_id.find nat_cmp q es) ≡ true → is_some (by_id.find nat_cmp q (by_id.put nat_cmp k v es)) ≡ true
  still_there q k v es h =
      ap is_some (by_id.find-put nat_cmp nat_cmp_total q k v es)
      ∙ elim (eq_by_cmp nat_cmp q k) as (λ b. is_some (cond b (Some v) (by_id.find nat_cmp q es)) ≡ true) [ true ↦ refl | false ↦ h ]

  pub found_among : (P : ℕ × X → Type 0) (q : ℕ) (v : X) (es : List (ℕ × X)) → AllByRecursion P es → by_id.find nat_cmp q es ≡ Some v → P (q, v)
  found_among P q v [] h e = cc
  found_among P q v (x ∷ es) h e =
      elim (nat_cmp q x.0) as (λ r. nat_cmp q x.0 ≡ r → cond (is_eq r) (Some x.1) (by_id.find nat_cmp q es) ≡ Some v → P (q, v)) [
        | Less ↦ λ r e. found_among P q v es h.1 e
        | Equal ↦ λ r e. subst P (λ i. (sym (nat_cmp-IsAntisymmetric q x.0 r) i, some_is e i)) h.0
        | Greater ↦ λ r e. found_among P q v es h.1 e
      ] refl e
    where
      some_is : {a b : X} → Some a ≡ Some b → a ≡ b
      some_is {a} p = ap (λ o. elim o [ Some c ↦ c | None ↦ a ]) p

  all_put : (P : ℕ × X → Type 0) (k : ℕ) (v : X) (es : List (ℕ × X)) → P (k, v) → AllByRecursion P es → AllByRecursion P (by_id.put nat_cmp k v es)
  all_put P k v [] p h = (p, tt)
  all_put P k v (e ∷ es) p h =
      elim (nat_cmp k e.0) as (λ r. nat_cmp k e.0 ≡ r → AllByRecursion P (by_id.by_order r ((k, v) ∷ e ∷ es) ((e.0, v) ∷ es) (e ∷ by_id.put nat_cmp k v es))) [
        | Less ↦ λ r. (p, h)
        | Equal ↦ λ r. (subst (λ n. P (n, v)) (nat_cmp-IsAntisymmetric k e.0 r) p, h.1)
        | Greater ↦ λ r. (h.0, all_put P k v es p h.1)
      ] refl

  all_where : (P : ℕ × X → Type 0) (p : ℕ → Bool) (es : List (ℕ × X)) → AllByRecursion P es → AllByRecursion P (by_id.where_key nat_cmp p es)
  all_where P p [] h = tt
  all_where P p (e ∷ es) h =
      elim (p e.0) as (λ b. AllByRecursion P (cond b (e ∷ by_id.where_key nat_cmp p es) (by_id.where_key nat_cmp p es))) [
        | true ↦ (h.0, all_where P p es h.1)
        | false ↦ all_where P p es h.1
      ]

  sorted_put : (k : ℕ) (v : X) (es : List (ℕ × X)) → IsTrue (by_id.is_sorted nat_cmp es) → IsTrue (by_id.is_sorted nat_cmp (by_id.put nat_cmp k v es))
  sorted_put k v es h = true_from _ (by_id.is_sorted-put nat_cmp nat_cmp_total k v es (holds _ h))

  sorted_where : (p : ℕ → Bool) (es : List (ℕ × X)) → IsTrue (by_id.is_sorted nat_cmp es) → IsTrue (by_id.is_sorted nat_cmp (by_id.where_key nat_cmp p es))
  sorted_where p es h = true_from _ (by_id.is_sorted-where_key nat_cmp p es (holds _ h))

  found_kept : (ids : List ℕ) (q : ℕ) (es : List (ℕ × X)) → contains_id ids q ≡ false → by_id.find nat_cmp q (by_id.where_key nat_cmp (λ n. not (contains_id ids n)) es) ≡ by_id.find nat_cmp q es
  found_kept ids q es h =
      by_id.find-where_key nat_cmp (λ n. not (contains_id ids n)) q (λ x e. ap (λ n. not (contains_id ids n)) (sym (nat_cmp-IsAntisymmetric q x e))) es
      ∙ ap (λ b. cond (not b) (by_id.find nat_cmp q es) None) h

  found_gone : (ids : List ℕ) (q : ℕ) (es : List (ℕ × X)) → contains_id ids q ≡ true → by_id.find nat_cmp q (by_id.where_key nat_cmp (λ n. not (contains_id ids n)) es) ≡ None
  found_gone ids q es h =
      by_id.find-where_key nat_cmp (λ n. not (contains_id ids n)) q (λ x e. ap (λ n. not (contains_id ids n)) (sym (nat_cmp-IsAntisymmetric q x e))) es
      ∙ ap (λ b. cond (not b) (by_id.find nat_cmp q es) None) h

below_next : (m n : ℕ) → m < n → m < n + 1
below_next m n h = omega arith

next_below : (n : ℕ) → n < n + 1
next_below n = omega arith

-- ---- the empty graph

abbrev pub EmptyIsGraph : Type 0
EmptyIsGraph = IsGraph empty_graph

pub empty_is_graph : EmptyIsGraph
empty_is_graph = record { node_ids_rise = refl; relationship_ids_rise = refl; nodes_below = tt; relationships_below = tt; sources = tt; targets = tt; labels_rise = tt; node_keys_rise = tt; relationship_keys_rise = tt }

-- ---- a node is added

abbrev pub AddNodeKeepsGraph : Type 0
AddNodeKeepsGraph = (labels : List (List ℕ)) (properties : Entries) (graph : Graph) → IsTrue (are_rising properties) → IsGraph graph → IsGraph (add_node labels properties graph)

pub add_node_keeps_graph : AddNodeKeepsGraph
add_node_keeps_graph labels properties graph rising g =
    let new : Node = record { labels = in_byte_order labels; properties = properties } in
    let stays : (n : ℕ) → IsTrue (has_node graph n) → IsTrue (has_node (add_node labels properties graph) n) = λ n. still_there n graph.next_node new graph.nodes in
    record {
      node_ids_rise = sorted_put graph.next_node new graph.nodes g.node_ids_rise;
      relationship_ids_rise = g.relationship_ids_rise;
      nodes_below = all_put (λ e. e.0 < graph.next_node + 1) graph.next_node new graph.nodes (next_below graph.next_node) (all_weaker (λ e. e.0 < graph.next_node) (λ e. e.0 < graph.next_node + 1) (λ e. below_next e.0 graph.next_node) graph.nodes g.nodes_below);
      relationships_below = g.relationships_below;
      sources = all_weaker (λ e. IsTrue (has_node graph e.1.source)) (λ e. IsTrue (has_node (add_node labels properties graph) e.1.source)) (λ e. stays e.1.source) graph.relationships g.sources;
      targets = all_weaker (λ e. IsTrue (has_node graph e.1.target)) (λ e. IsTrue (has_node (add_node labels properties graph) e.1.target)) (λ e. stays e.1.target) graph.relationships g.targets;
      labels_rise = all_put (λ e. IsStrictlySortedBy text_order e.1.labels) graph.next_node new graph.nodes (in_byte_order_rises labels) g.labels_rise;
      node_keys_rise = all_put (λ e. IsTrue (are_rising e.1.properties)) graph.next_node new graph.nodes rising g.node_keys_rise;
      relationship_keys_rise = g.relationship_keys_rise;
    }

-- what an added node leaves to read
pub record NodeIsAdded (labels : List (List ℕ)) (properties : Entries) (graph after : Graph) : Type 0 where
  pub itself : node_at after graph.next_node ≡ Some (record { labels = in_byte_order labels; properties = properties })
  pub others : (n : ℕ) → n ≢ graph.next_node → node_at after n ≡ node_at graph n
  pub relationships : after.relationships ≡ graph.relationships
  pub next_node : after.next_node ≡ graph.next_node + 1
  pub next_relationship : after.next_relationship ≡ graph.next_relationship

abbrev pub AddNodeAdds : Type 0
AddNodeAdds = (labels : List (List ℕ)) (properties : Entries) (graph : Graph) → NodeIsAdded labels properties graph (add_node labels properties graph)

pub add_node_adds : AddNodeAdds
add_node_adds labels properties graph = record {
  itself = found_itself graph.next_node _ graph.nodes;
  others = λ n h. found_other n graph.next_node _ graph.nodes h;
  relationships = refl;
  next_node = refl;
  next_relationship = refl;
}

-- ---- a relationship is added

abbrev pub AddRelationshipKeepsGraph : Type 0
AddRelationshipKeepsGraph =
    (type : List ℕ) (source target : ℕ) (properties : Entries) (graph : Graph) → IsTrue (are_rising properties)
    → IsTrue (has_node graph source) → IsTrue (has_node graph target) → IsGraph graph → IsGraph (add_relationship type source target properties graph)

pub add_relationship_keeps_graph : AddRelationshipKeepsGraph
add_relationship_keeps_graph type source target properties graph rising from to g =
    let new : Relationship = record { type = type; source = source; target = target; properties = properties } in
    let next = graph.next_relationship in
    record {
      node_ids_rise = g.node_ids_rise;
      relationship_ids_rise = sorted_put next new graph.relationships g.relationship_ids_rise;
      nodes_below = g.nodes_below;
      relationships_below = all_put (λ e. e.0 < next + 1) next new graph.relationships (next_below next) (all_weaker (λ e. e.0 < next) (λ e. e.0 < next + 1) (λ e. below_next e.0 next) graph.relationships g.relationships_below);
      sources = all_put (λ e. IsTrue (has_node graph e.1.source)) next new graph.relationships from g.sources;
      targets = all_put (λ e. IsTrue (has_node graph e.1.target)) next new graph.relationships to g.targets;
      labels_rise = g.labels_rise;
      node_keys_rise = g.node_keys_rise;
      relationship_keys_rise = all_put (λ e. IsTrue (are_rising e.1.properties)) next new graph.relationships rising g.relationship_keys_rise;
    }

-- what an added relationship leaves to read
pub record RelationshipIsAdded (type : List ℕ) (source target : ℕ) (properties : Entries) (graph after : Graph) : Type 0 where
  pub itself : relationship_at after graph.next_relationship ≡ Some (record { type = type; source = source; target = target; properties = properties })
  pub others : (r : ℕ) → r ≢ graph.next_relationship → relationship_at after r ≡ relationship_at graph r
  pub nodes : after.nodes ≡ graph.nodes
  pub next_node : after.next_node ≡ graph.next_node
  pub next_relationship : after.next_relationship ≡ graph.next_relationship + 1

abbrev pub AddRelationshipAdds : Type 0
AddRelationshipAdds =
    (type : List ℕ) (source target : ℕ) (properties : Entries) (graph : Graph) → RelationshipIsAdded type source target properties graph (add_relationship type source target properties graph)

pub add_relationship_adds : AddRelationshipAdds
add_relationship_adds type source target properties graph = record {
  itself = found_itself graph.next_relationship _ graph.relationships;
  others = λ r h. found_other r graph.next_relationship _ graph.relationships h;
  nodes = refl;
  next_node = refl;
  next_relationship = refl;
}

-- ---- a node is changed

-- it is there, and its labels and keys rise after the change
abbrev pub KeepsNode : (Node → Node) → ℕ → Graph → Type 0
KeepsNode f n graph = (e : Node) → node_at graph n ≡ Some e → IsStrictlySortedBy text_order (f e).labels × IsTrue (are_rising (f e).properties)

abbrev pub ChangeNodeKeepsGraph : Type 0
ChangeNodeKeepsGraph = (f : Node → Node) (n : ℕ) (graph : Graph) → KeepsNode f n graph → IsGraph graph → IsGraph (change_node f n graph)

put_node_keeps_graph : (n : ℕ) (old new : Node) (graph : Graph) → node_at graph n ≡ Some old → IsStrictlySortedBy text_order new.labels → IsTrue (are_rising new.properties) → IsGraph graph
    → IsGraph (record graph { nodes = by_id.put nat_cmp n new graph.nodes })
put_node_keeps_graph n old new graph is labels keys g =
    let stays : (m : ℕ) → IsTrue (has_node graph m) → IsTrue (is_some (by_id.find nat_cmp m (by_id.put nat_cmp n new graph.nodes))) = λ m. still_there m n new graph.nodes in
    record {
      node_ids_rise = sorted_put n new graph.nodes g.node_ids_rise;
      relationship_ids_rise = g.relationship_ids_rise;
      nodes_below = all_put (λ e. e.0 < graph.next_node) n new graph.nodes (found_among (λ e. e.0 < graph.next_node) n old graph.nodes g.nodes_below is) g.nodes_below;
      relationships_below = g.relationships_below;
      sources = all_weaker (λ e. IsTrue (has_node graph e.1.source)) (λ e. IsTrue (is_some (by_id.find nat_cmp e.1.source (by_id.put nat_cmp n new graph.nodes)))) (λ e. stays e.1.source) graph.relationships g.sources;
      targets = all_weaker (λ e. IsTrue (has_node graph e.1.target)) (λ e. IsTrue (is_some (by_id.find nat_cmp e.1.target (by_id.put nat_cmp n new graph.nodes)))) (λ e. stays e.1.target) graph.relationships g.targets;
      labels_rise = all_put (λ e. IsStrictlySortedBy text_order e.1.labels) n new graph.nodes labels g.labels_rise;
      node_keys_rise = all_put (λ e. IsTrue (are_rising e.1.properties)) n new graph.nodes keys g.node_keys_rise;
      relationship_keys_rise = g.relationship_keys_rise;
    }

pub change_node_keeps_graph : ChangeNodeKeepsGraph
change_node_keeps_graph f n graph keeps g =
    elim (node_at graph n) as (λ o. node_at graph n ≡ o → IsGraph (elim o [ None ↦ graph | Some e ↦ record graph { nodes = by_id.put nat_cmp n (f e) graph.nodes } ])) [
      | None ↦ λ is. g
      | Some e ↦ λ is. put_node_keeps_graph n e (f e) graph is (keeps e is).0 (keeps e is).1 g
    ] refl

-- what a changed node leaves to read
pub record NodeIsChanged (f : Node → Node) (n : ℕ) (graph after : Graph) : Type 0 where
  pub itself : node_at after n ≡ option_map f (node_at graph n)
  pub others : (m : ℕ) → m ≢ n → node_at after m ≡ node_at graph m
  pub relationships : after.relationships ≡ graph.relationships
  pub next_node : after.next_node ≡ graph.next_node
  pub next_relationship : after.next_relationship ≡ graph.next_relationship

abbrev pub ChangeNodeChanges : Type 0
ChangeNodeChanges = (f : Node → Node) (n : ℕ) (graph : Graph) → NodeIsChanged f n graph (change_node f n graph)

pub change_node_changes : ChangeNodeChanges
change_node_changes f n graph =
    elim (node_at graph n) as (λ o. node_at graph n ≡ o → NodeIsChanged f n graph (elim o [ None ↦ graph | Some e ↦ record graph { nodes = by_id.put nat_cmp n (f e) graph.nodes } ])) [
      | None ↦ λ is. record { itself = is ∙ ap (option_map f) (sym is); others = λ m h. refl; relationships = refl; next_node = refl; next_relationship = refl }
      | Some e ↦ λ is. record {
        itself = found_itself n (f e) graph.nodes ∙ ap (option_map f) (sym is);
        others = λ m h. found_other m n (f e) graph.nodes h;
        relationships = refl;
        next_node = refl;
        next_relationship = refl;
      }
    ] refl

-- ---- a relationship is changed

-- its ends are there and its keys rise after the change
pub record KeptRelationship (graph : Graph) (e : Relationship) : Type 0 where
  pub source : IsTrue (has_node graph e.source)
  pub target : IsTrue (has_node graph e.target)
  pub keys : IsTrue (are_rising e.properties)

abbrev pub KeepsRelationship : (Relationship → Relationship) → ℕ → Graph → Type 0
KeepsRelationship f r graph = (e : Relationship) → relationship_at graph r ≡ Some e → KeptRelationship graph (f e)

abbrev pub ChangeRelationshipKeepsGraph : Type 0
ChangeRelationshipKeepsGraph = (f : Relationship → Relationship) (r : ℕ) (graph : Graph) → KeepsRelationship f r graph → IsGraph graph → IsGraph (change_relationship f r graph)

put_relationship_keeps_graph : (r : ℕ) (old new : Relationship) (graph : Graph) → relationship_at graph r ≡ Some old → KeptRelationship graph new → IsGraph graph
    → IsGraph (record graph { relationships = by_id.put nat_cmp r new graph.relationships })
put_relationship_keeps_graph r old new graph is kept g = record {
  node_ids_rise = g.node_ids_rise;
  relationship_ids_rise = sorted_put r new graph.relationships g.relationship_ids_rise;
  nodes_below = g.nodes_below;
  relationships_below = all_put (λ e. e.0 < graph.next_relationship) r new graph.relationships (found_among (λ e. e.0 < graph.next_relationship) r old graph.relationships g.relationships_below is) g.relationships_below;
  sources = all_put (λ e. IsTrue (has_node graph e.1.source)) r new graph.relationships kept.source g.sources;
  targets = all_put (λ e. IsTrue (has_node graph e.1.target)) r new graph.relationships kept.target g.targets;
  labels_rise = g.labels_rise;
  node_keys_rise = g.node_keys_rise;
  relationship_keys_rise = all_put (λ e. IsTrue (are_rising e.1.properties)) r new graph.relationships kept.keys g.relationship_keys_rise;
}

pub change_relationship_keeps_graph : ChangeRelationshipKeepsGraph
change_relationship_keeps_graph f r graph keeps g =
    elim (relationship_at graph r) as (λ o. relationship_at graph r ≡ o → IsGraph (elim o [ None ↦ graph | Some e ↦ record graph { relationships = by_id.put nat_cmp r (f e) graph.relationships } ])) [
      | None ↦ λ is. g
      | Some e ↦ λ is. put_relationship_keeps_graph r e (f e) graph is (keeps e is) g
    ] refl

-- what a changed relationship leaves to read
pub record RelationshipIsChanged (f : Relationship → Relationship) (r : ℕ) (graph after : Graph) : Type 0 where
  pub itself : relationship_at after r ≡ option_map f (relationship_at graph r)
  pub others : (s : ℕ) → s ≢ r → relationship_at after s ≡ relationship_at graph s
  pub nodes : after.nodes ≡ graph.nodes
  pub next_node : after.next_node ≡ graph.next_node
  pub next_relationship : after.next_relationship ≡ graph.next_relationship

abbrev pub ChangeRelationshipChanges : Type 0
ChangeRelationshipChanges = (f : Relationship → Relationship) (r : ℕ) (graph : Graph) → RelationshipIsChanged f r graph (change_relationship f r graph)

pub change_relationship_changes : ChangeRelationshipChanges
change_relationship_changes f r graph =
    elim (relationship_at graph r) as (λ o. relationship_at graph r ≡ o → RelationshipIsChanged f r graph (elim o [ None ↦ graph | Some e ↦ record graph { relationships = by_id.put nat_cmp r (f e) graph.relationships } ])) [
      | None ↦ λ is. record { itself = is ∙ ap (option_map f) (sym is); others = λ s h. refl; nodes = refl; next_node = refl; next_relationship = refl }
      | Some e ↦ λ is. record {
        itself = found_itself r (f e) graph.relationships ∙ ap (option_map f) (sym is);
        others = λ s h. found_other s r (f e) graph.relationships h;
        nodes = refl;
        next_node = refl;
        next_relationship = refl;
      }
    ] refl

-- ---- elements are removed

-- no relationship that stays has a removed node as an end
abbrev pub NoneIsLoose : (ns rs : List ℕ) → Graph → Type 0
NoneIsLoose ns rs graph = AllByRecursion (λ e. (contains_id ns e.1.source ≡ false) × (contains_id ns e.1.target ≡ false)) (remove_elements ns rs graph).relationships

abbrev pub RemoveKeepsGraph : Type 0
RemoveKeepsGraph = (ns rs : List ℕ) (graph : Graph) → NoneIsLoose ns rs graph → IsGraph graph → IsGraph (remove_elements ns rs graph)

kept_node : (ns rs : List ℕ) (graph : Graph) (n : ℕ) → contains_id ns n ≡ false → IsTrue (has_node graph n) → IsTrue (has_node (remove_elements ns rs graph) n)
kept_node ns rs graph n h is = ap is_some (found_kept ns n graph.nodes h) ∙ is

pub remove_keeps_graph : RemoveKeepsGraph
remove_keeps_graph ns rs graph loose g =
    let after = remove_elements ns rs graph in
    let keeps : ℕ → Bool = λ r. not (contains_id rs r) in
    let left : ℕ → Bool = λ n. not (contains_id ns n) in
    let sources = all_where (λ e. IsTrue (has_node graph e.1.source)) keeps graph.relationships g.sources in
    let targets = all_where (λ e. IsTrue (has_node graph e.1.target)) keeps graph.relationships g.targets in
    record {
      node_ids_rise = sorted_where left graph.nodes g.node_ids_rise;
      relationship_ids_rise = sorted_where keeps graph.relationships g.relationship_ids_rise;
      nodes_below = all_where (λ e. e.0 < graph.next_node) left graph.nodes g.nodes_below;
      relationships_below = all_where (λ e. e.0 < graph.next_relationship) keeps graph.relationships g.relationships_below;
      sources = all_weaker _ _ (λ e h. kept_node ns rs graph e.1.source h.0.0 h.1) after.relationships (all_both _ _ after.relationships loose sources);
      targets = all_weaker _ _ (λ e h. kept_node ns rs graph e.1.target h.0.1 h.1) after.relationships (all_both _ _ after.relationships loose targets);
      labels_rise = all_where (λ e. IsStrictlySortedBy text_order e.1.labels) left graph.nodes g.labels_rise;
      node_keys_rise = all_where (λ e. IsTrue (are_rising e.1.properties)) left graph.nodes g.node_keys_rise;
      relationship_keys_rise = all_where (λ e. IsTrue (are_rising e.1.properties)) keeps graph.relationships g.relationship_keys_rise;
    }

-- what removed elements leave to read
pub record AreRemoved (ns rs : List ℕ) (graph after : Graph) : Type 0 where
  pub nodes_gone : (n : ℕ) → contains_id ns n ≡ true → node_at after n ≡ None
  pub nodes_kept : (n : ℕ) → contains_id ns n ≡ false → node_at after n ≡ node_at graph n
  pub relationships_gone : (r : ℕ) → contains_id rs r ≡ true → relationship_at after r ≡ None
  pub relationships_kept : (r : ℕ) → contains_id rs r ≡ false → relationship_at after r ≡ relationship_at graph r
  pub next_node : after.next_node ≡ graph.next_node
  pub next_relationship : after.next_relationship ≡ graph.next_relationship

abbrev pub RemoveRemoves : Type 0
RemoveRemoves = (ns rs : List ℕ) (graph : Graph) → AreRemoved ns rs graph (remove_elements ns rs graph)

pub remove_removes : RemoveRemoves
remove_removes ns rs graph = record {
  nodes_gone = λ n h. found_gone ns n graph.nodes h;
  nodes_kept = λ n h. found_kept ns n graph.nodes h;
  relationships_gone = λ r h. found_gone rs r graph.relationships h;
  relationships_kept = λ r h. found_kept rs r graph.relationships h;
  next_node = refl;
  next_relationship = refl;
}
