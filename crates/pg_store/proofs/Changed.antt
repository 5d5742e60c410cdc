-- An element that gets other labels or properties, as the graph tells it.
use Rattle.std.proofs.Common.{◌≡◌, ◌||◌, ℕ, Bool, true, false, not, cond, filter, bytes_eq, List, [], ◌∷◌, Option, Some, None, IsSome, is_some, Ordering, Less, Equal, Greater, refl, sym, ap, subst, ◌∙◌}
use Rattle.std.specs.FinMap as map
use Rattle.std.specs.Cmp.{nat_cmp_total, tied_itself}
use Rattle.std.specs.FinMap.{find}
use Rattle.std.specs.FinMap.Entries.{put as put_entry, by_order, find-put}
use Rattle.std.specs.Option.{option_map, option_map_or}
use Rattle.std.specs.Ordering.{nat_cmp, is_eq}
use Rattle.pg_graph.proofs.NamedChanges.{label_texts_kept, property_entries_kept}
use Rattle.pg_graph.proofs.Maps.{put_same}
use Rattle.pg_graph.proofs.Refined.{node_is_read, relationship_is_read, node_is_changed, relationship_is_changed}
use Rattle.pg_graph.specs.Content.{Content, with_rel}
use Rattle.pg_names.specs.Names.{KeepsNames}
use Rattle.pg_graph.specs.Records.{Properties}
use Rattle.pg_graph.specs.Refinement.{AreNamed, graph_of, node_of, relationship_of, label_texts, property_entries}
use Rattle.pg_graph.specs.declared.records.NodeRecord.{NodeRecord}
use Rattle.pg_graph.specs.declared.records.RelRecord.{RelRecord}
use Rattle.pg_meaning.specs.Graph.{Graph, Node, Relationship, node_at, relationship_at, has_node, has_relationship, change_node, change_relationship}
use Rattle.pg_meaning.specs.Names.{is_among}
use Rattle.pg_meaning.specs.Value.{Entries}
use Rattle.pg_store.specs.Stores.{without_texts}

module _ (names : List (List ℕ)) (c : Content) (i j id : ℕ) where
  abbrev g : Graph
  g = graph_of names c i j

  pub node_changed_alike : (n : NodeRecord) (f h : Node → Node) → map.get c.nodes id ≡ Some n → f (node_of names n) ≡ h (node_of names n) → change_node f id g ≡ change_node h id g
  node_changed_alike n f h is same =
      let at = node_is_read names c i j id ∙ ap (option_map (node_of names)) is in
      ap (λ o. elim o [ None ↦ g | Some e ↦ record g { nodes = put_entry nat_cmp id (f e) g.nodes } ]) at
      ∙ ap (λ e. record g { nodes = put_entry nat_cmp id e g.nodes }) same
      ∙ sym (ap (λ o. elim o [ None ↦ g | Some e ↦ record g { nodes = put_entry nat_cmp id (h e) g.nodes } ]) at)

  pub rel_changed_alike : (r : RelRecord) (f h : Relationship → Relationship) → map.get c.rels id ≡ Some r → f (relationship_of names r) ≡ h (relationship_of names r) → change_relationship f id g ≡ change_relationship h id g
  rel_changed_alike r f h is same =
      let at = relationship_is_read names c i j id ∙ ap (option_map (relationship_of names)) is in
      ap (λ o. elim o [ None ↦ g | Some e ↦ record g { relationships = put_entry nat_cmp id (f e) g.relationships } ]) at
      ∙ ap (λ e. record g { relationships = put_entry nat_cmp id e g.relationships }) same
      ∙ sym (ap (λ o. elim o [ None ↦ g | Some e ↦ record g { relationships = put_entry nat_cmp id (h e) g.relationships } ]) at)

  -- a change that makes no difference
  pub node_stays : (n : NodeRecord) (f : Node → Node) → map.get c.nodes id ≡ Some n → f (node_of names n) ≡ node_of names n → change_node f id g ≡ g
  node_stays n f is same =
      node_changed_alike n f (λ _. node_of names n) is same
      ∙ sym (node_is_changed names c i j id n (subst IsSome (sym is) refl))
      ∙ (λ t. graph_of names (record { nodes = put_same c.nodes id n is t; rels = c.rels }) i j)

  pub rel_stays : (r : RelRecord) (f : Relationship → Relationship) → map.get c.rels id ≡ Some r → f (relationship_of names r) ≡ relationship_of names r → change_relationship f id g ≡ g
  rel_stays r f is same =
      rel_changed_alike r f (λ e. record e { properties = property_entries names r.properties }) is same
      ∙ sym (relationship_is_changed names c i j id r.properties (subst IsSome (sym is) refl))
      ∙ ap (λ o. graph_of names (option_map_or (λ rel. with_rel c id (record rel { properties = r.properties })) o c) i j) is
      ∙ (λ t. graph_of names (record { nodes = c.nodes; rels = put_same c.rels id r is t }) i j)

  pub node_unchanged : (f : Node → Node) → ((e : Node) → f e ≡ e) → change_node f id g ≡ g
  node_unchanged f same = by_case (map.get c.nodes id) refl
    where
      by_case : (o : Option NodeRecord) → map.get c.nodes id ≡ o → change_node f id g ≡ g
      by_case None is = ap (λ o. elim o [ None ↦ g | Some e ↦ record g { nodes = put_entry nat_cmp id (f e) g.nodes } ]) (node_is_read names c i j id ∙ ap (option_map (node_of names)) is)
      by_case (Some n) is = node_stays n f is (same (node_of names n))

  pub rel_unchanged : (f : Relationship → Relationship) → ((e : Relationship) → f e ≡ e) → change_relationship f id g ≡ g
  rel_unchanged f same = by_case (map.get c.rels id) refl
    where
      by_case : (o : Option RelRecord) → map.get c.rels id ≡ o → change_relationship f id g ≡ g
      by_case None is = ap (λ o. elim o [ None ↦ g | Some e ↦ record g { relationships = put_entry nat_cmp id (f e) g.relationships } ]) (relationship_is_read names c i j id ∙ ap (option_map (relationship_of names)) is)
      by_case (Some r) is = rel_stays r f is (same (relationship_of names r))

-- ---- one change after another

tied : (n : ℕ) → nat_cmp n n ≡ Equal
tied n = tied_itself nat_cmp_total n

module _ {A : Type 0} (n : ℕ) where
  put_twice : (v w : A) (es : List (ℕ × A)) → put_entry nat_cmp n w (put_entry nat_cmp n v es) ≡ put_entry nat_cmp n w es
  put_twice v w [] = ap (λ o. by_order o ((n, w) ∷ (n, v) ∷ []) ((n, w) ∷ []) ((n, v) ∷ (n, w) ∷ [])) (tied n)
  put_twice v w (e ∷ es) = by_test (nat_cmp n e.0) refl (put_twice v w es)
    where
      by_test : (o : Ordering) → nat_cmp n e.0 ≡ o → put_entry nat_cmp n w (put_entry nat_cmp n v es) ≡ put_entry nat_cmp n w es
          → put_entry nat_cmp n w (by_order o ((n, v) ∷ e ∷ es) ((e.0, v) ∷ es) (e ∷ put_entry nat_cmp n v es)) ≡ by_order o ((n, w) ∷ e ∷ es) ((e.0, w) ∷ es) (e ∷ put_entry nat_cmp n w es)
      by_test Less is rest = ap (λ o. by_order o ((n, w) ∷ (n, v) ∷ e ∷ es) ((n, w) ∷ e ∷ es) ((n, v) ∷ put_entry nat_cmp n w (e ∷ es))) (tied n)
      by_test Equal is rest = ap (λ o. by_order o ((n, w) ∷ (e.0, v) ∷ es) ((e.0, w) ∷ es) ((e.0, v) ∷ put_entry nat_cmp n w es)) is
      by_test Greater is rest =
          ap (λ o. by_order o ((n, w) ∷ e ∷ put_entry nat_cmp n v es) ((e.0, w) ∷ put_entry nat_cmp n v es) (e ∷ put_entry nat_cmp n w (put_entry nat_cmp n v es))) is
          ∙ ap (λ r. e ∷ r) rest

  found_put : (v : A) (es : List (ℕ × A)) → find nat_cmp n (put_entry nat_cmp n v es) ≡ Some v
  found_put v es = find-put nat_cmp nat_cmp_total n n v es ∙ ap (λ o. cond (is_eq o) (Some v) (find nat_cmp n es)) (tied n)

module _ (n : ℕ) (g : Graph) where
  pub node_twice : (f h : Node → Node) → change_node f n (change_node h n g) ≡ change_node (λ e. f (h e)) n g
  node_twice f h = by_case (node_at g n) refl
    where
      by_case : (o : Option Node) → node_at g n ≡ o → change_node f n (elim o [ None ↦ g | Some e ↦ record g { nodes = put_entry nat_cmp n (h e) g.nodes } ]) ≡ elim o [ None ↦ g | Some e ↦ record g { nodes = put_entry nat_cmp n (f (h e)) g.nodes } ]
      by_case None is = ap (λ o. elim o [ None ↦ g | Some e ↦ record g { nodes = put_entry nat_cmp n (f e) g.nodes } ]) is
      by_case (Some e) is =
          ap (λ o. elim o [ None ↦ record g { nodes = put_entry nat_cmp n (h e) g.nodes } | Some x ↦ record g { nodes = put_entry nat_cmp n (f x) (put_entry nat_cmp n (h e) g.nodes) } ]) (found_put n (h e) g.nodes)
          ∙ ap (λ ns. record g { nodes = ns }) (put_twice n (h e) (f (h e)) g.nodes)

  pub node_there : (f : Node → Node) → has_node g n ≡ true → has_node (change_node f n g) n ≡ true
  node_there f h = by_case (node_at g n) refl
    where
      by_case : (o : Option Node) → node_at g n ≡ o → has_node (elim o [ None ↦ g | Some e ↦ record g { nodes = put_entry nat_cmp n (f e) g.nodes } ]) n ≡ true
      by_case None is = h
      by_case (Some e) is = ap is_some (found_put n (f e) g.nodes)

  pub rel_twice : (f h : Relationship → Relationship) → change_relationship f n (change_relationship h n g) ≡ change_relationship (λ e. f (h e)) n g
  rel_twice f h = by_case (relationship_at g n) refl
    where
      by_case : (o : Option Relationship) → relationship_at g n ≡ o
          → change_relationship f n (elim o [ None ↦ g | Some e ↦ record g { relationships = put_entry nat_cmp n (h e) g.relationships } ]) ≡ elim o [ None ↦ g | Some e ↦ record g { relationships = put_entry nat_cmp n (f (h e)) g.relationships } ]
      by_case None is = ap (λ o. elim o [ None ↦ g | Some e ↦ record g { relationships = put_entry nat_cmp n (f e) g.relationships } ]) is
      by_case (Some e) is =
          ap (λ o. elim o [ None ↦ record g { relationships = put_entry nat_cmp n (h e) g.relationships } | Some x ↦ record g { relationships = put_entry nat_cmp n (f x) (put_entry nat_cmp n (h e) g.relationships) } ]) (found_put n (h e) g.relationships)
          ∙ ap (λ rs. record g { relationships = rs }) (put_twice n (h e) (f (h e)) g.relationships)

  pub rel_there : (f : Relationship → Relationship) → has_relationship g n ≡ true → has_relationship (change_relationship f n g) n ≡ true
  rel_there f h = by_case (relationship_at g n) refl
    where
      by_case : (o : Option Relationship) → relationship_at g n ≡ o → has_relationship (elim o [ None ↦ g | Some e ↦ record g { relationships = put_entry nat_cmp n (f e) g.relationships } ]) n ≡ true
      by_case None is = h
      by_case (Some e) is = ap is_some (found_put n (f e) g.relationships)

-- the same labels under more names, and other properties
pub with_properties : (old new : List (List ℕ)) (n : NodeRecord) (ps : Properties) (es : Entries) → KeepsNames old new → AreNamed old n.labels → property_entries new ps ≡ es
    → node_of new (record { labels = n.labels; properties = ps }) ≡ record { labels = label_texts old n.labels; properties = es }
with_properties old new n ps es keeps named is = λ t. record { labels = label_texts_kept old new keeps n.labels named t; properties = is t }

-- the same properties under more names, and other labels
pub with_labels : (old new : List (List ℕ)) (n : NodeRecord) (ls : List ℕ) (texts : List (List ℕ)) → KeepsNames old new → AreNamed old (map.keys n.properties) → label_texts new ls ≡ texts
    → node_of new (record { labels = ls; properties = n.properties }) ≡ record { labels = texts; properties = property_entries old n.properties }
with_labels old new n ls texts keeps named is = λ t. record { labels = is t; properties = property_entries_kept old new keeps n.properties named t }

pub rel_before : (names : List (List ℕ)) (o : Option RelRecord) (ps : Properties) → option_map (λ (r : RelRecord). r.properties) o ≡ Some ps → (r : RelRecord) × (o ≡ Some r) × (r.properties ≡ ps)
rel_before names None ps h = absurd (cc)
rel_before names (Some r) ps h = (r, refl, cc)

-- a relationship's properties, made of those before
pub rel_properties_alike : (names : List (List ℕ)) (c : Content) (i j id : ℕ) (es : Entries) (before : Properties) (f : Entries → Entries) → option_map (λ (r : RelRecord). r.properties) (map.get c.rels id) ≡ Some before
    → es ≡ f (property_entries names before)
    → change_relationship (λ r. record r { properties = es }) id (graph_of names c i j) ≡ change_relationship (λ r. record r { properties = f r.properties }) id (graph_of names c i j)
rel_properties_alike names c i j id es before f was is =
    let r = rel_before names (map.get c.rels id) before was in
    rel_changed_alike names c i j id r.0 (λ r. record r { properties = es }) (λ r. record r { properties = f r.properties }) r.1
    (λ t. record (relationship_of names r.0) { properties = (is ∙ ap (λ (ps : Properties). f (property_entries names ps)) (sym r.2)) t })

-- ---- labels taken out one after the other

kept_all : (us : List (List ℕ)) → us ≡ filter (λ u. not (is_among [] u)) us
kept_all [] = refl
kept_all (u ∷ us) = ap (λ vs. u ∷ vs) (kept_all us)

kept_both : (t : List ℕ) (ts us : List (List ℕ)) → filter (λ u. not (is_among ts u)) (filter (λ u. not (bytes_eq u t)) us) ≡ filter (λ u. not (is_among (t ∷ ts) u)) us
kept_both t ts [] = refl
kept_both t ts (u ∷ us) = by_test (bytes_eq u t) (kept_both t ts us)
  where
    by_test : (b : Bool) → filter (λ u. not (is_among ts u)) (filter (λ u. not (bytes_eq u t)) us) ≡ filter (λ u. not (is_among (t ∷ ts) u)) us
        → filter (λ u. not (is_among ts u)) (cond (not b) (u ∷ filter (λ u. not (bytes_eq u t)) us) (filter (λ u. not (bytes_eq u t)) us))
        ≡ cond (not (b || is_among ts u)) (u ∷ filter (λ u. not (is_among (t ∷ ts) u)) us) (filter (λ u. not (is_among (t ∷ ts) u)) us)
    by_test true rest = rest
    by_test false rest = ap (λ vs. cond (not (is_among ts u)) (u ∷ vs) vs) rest

pub without_is : (ts us : List (List ℕ)) → without_texts ts us ≡ filter (λ u. not (is_among ts u)) us
without_is [] us = kept_all us
without_is (t ∷ ts) us = without_is ts (filter (λ u. not (bytes_eq u t)) us) ∙ kept_both t ts us
