-- A node that is made, and what is read and listed of nodes, as the graph tells it.
use Rattle.std.proofs.Common.{◌≡◌, ◌==◌, ◌+◌, ℕ, false, List, [], ◌∷◌, map as map_list, Option, Some, None, arith, refl, sym, ap, ◌∙◌}
use Rattle.std.specs.FinMap as map
use Rattle.std.specs.FinMap.Entries.{put as put_entry}
use Rattle.std.specs.List.{list_any, position}
use Rattle.std.specs.Option.{option_map_or}
use Rattle.std.specs.Ordering.{nat_cmp}
use Rattle.std.specs.Str.{bytes_eq}
use Rattle.pg_graph.proofs.Ids.{ids_in}
use Rattle.pg_graph.proofs.Listed.{same_ids}
use Rattle.pg_graph.proofs.Named.{label_is_read}
use Rattle.pg_graph.proofs.Refined.{node_is_added, ids_mapped}
use Rattle.pg_graph.specs.Content.{Content, with_node, ids_where}
use Rattle.pg_graph.specs.Refinement.{label_texts, property_entries, node_of, elements, graph_of, Holds}
use Rattle.pg_graph.specs.Stored.{has_number}
use Rattle.pg_graph.specs.declared.records.NodeRecord.{NodeRecord}
use Rattle.pg_meaning.specs.Graph.{Node, add_node, ids_of, nodes_with_label}
use Rattle.pg_meaning.specs.Names.{is_among, in_byte_order}

module _ (names : List (List ℕ)) (c : Content) (i j : ℕ) where
  -- the next id has no node yet
  pub next_is_absent : Holds names c i j → map.get c.nodes i ≡ None
  next_is_absent h = by_case (map.get c.nodes i) refl
    where
      by_case : (o : Option NodeRecord) → map.get c.nodes i ≡ o → o ≡ None
      by_case None is = refl
      by_case (Some n) is = let below = (h.nodes i n is).below in absurd (omega arith)

  pub node_made : (n : NodeRecord) (labels : List (List ℕ)) → in_byte_order labels ≡ label_texts names n.labels
      → graph_of names (with_node c i n) (i + 1) j ≡ add_node labels (property_entries names n.properties) (graph_of names c i j)
  node_made n labels h =
      let g = graph_of names c i j in
      node_is_added names c i j n
      ∙ ap (λ (ls : List (List ℕ)). let new : Node = record { labels = ls; properties = property_entries names n.properties } in record g { nodes = put_entry nat_cmp g.next_node new g.nodes; next_node = g.next_node + 1 }) (sym h)

  -- ---- lists of ids

  pub all_listed : ids_of (elements (node_of names) c.nodes) ≡ ids_where (has_number None) c.nodes
  all_listed = each (map.entries c.nodes)
    where
      each : (es : List (ℕ × NodeRecord)) → ids_of (map_list (λ e. (e.0, node_of names e.1)) es) ≡ ids_in (has_number None) es
      each [] = refl
      each (e ∷ es) = ap (λ r. e.0 ∷ r) (each es)

  none_listed : (es : List (ℕ × NodeRecord)) → ids_in (λ _. false) es ≡ []
  none_listed [] = refl
  none_listed (e ∷ es) = none_listed es

  with_label : (t : List ℕ) (o : Option ℕ) → Holds names c i j → position (bytes_eq t) names ≡ o
      → nodes_with_label (graph_of names c i j) t ≡ ids_where (λ n. option_map_or (λ l. list_any (λ m. m == l) n.labels) o false) c.nodes
  with_label t o h is =
      ids_mapped (node_of names) (λ n. is_among n.labels t) (map.entries c.nodes)
      ∙ same_ids (λ n. is_among (label_texts names n.labels) t) (λ n. option_map_or (λ l. list_any (λ m. m == l) n.labels) o false) c.nodes
      (λ k n at. label_is_read names n.labels t h.distinct (h.nodes k n at).labels ∙ ap (λ o. option_map_or (λ l. list_any (λ m. m == l) n.labels) o false) is)

  pub with_label_listed : (t : List ℕ) (n : ℕ) → Holds names c i j → position (bytes_eq t) names ≡ Some n → nodes_with_label (graph_of names c i j) t ≡ ids_where (has_number (Some n)) c.nodes
  with_label_listed t n h is = with_label t (Some n) h is

  pub with_no_label_listed : (t : List ℕ) → Holds names c i j → position (bytes_eq t) names ≡ None → nodes_with_label (graph_of names c i j) t ≡ []
  with_no_label_listed t h is = with_label t None h is ∙ none_listed (map.entries c.nodes)
