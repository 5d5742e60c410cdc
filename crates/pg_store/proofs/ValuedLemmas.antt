-- The nodes with a label that have a value under a key, by the numbers of both.
use Rattle.std.proofs.Common.{◌≡◌, ◌==◌, ◌&&◌, ℕ, Bool, false, List, [], ◌∷◌, Option, Some, None, bytes_eq, refl, ap, ◌∙◌}
use Rattle.std.proofs.Math.Bool.{and-false}
use Rattle.std.specs.FinMap as map
use Rattle.std.specs.List.{list_any, position}
use Rattle.std.specs.Option.{option_map_or}
use Rattle.std.specs.Prelude.{unwrap_or}
use Rattle.pg_graph.proofs.Ids.{ids_in}
use Rattle.pg_graph.proofs.Listed.{same_ids}
use Rattle.pg_graph.proofs.Named.{label_is_read, property_is_read}
use Rattle.pg_graph.proofs.Refined.{ids_mapped}
use Rattle.pg_graph.specs.Content.{Content, ids_where}
use Rattle.pg_graph.specs.Refinement.{label_texts, property_entries, node_of, graph_of, Holds}
use Rattle.pg_graph.specs.declared.records.NodeRecord.{NodeRecord}
use Rattle.pg_index.specs.Properties.{is_found_by, is_equal}
use Rattle.pg_meaning.specs.Entries.{value_at}
use Rattle.pg_meaning.specs.Equality.{eq3}
use Rattle.pg_meaning.specs.Logic.{is_true}
use Rattle.pg_meaning.specs.Names.{is_among}
use Rattle.pg_meaning.specs.Value as meaning
use Rattle.pg_meaning.specs.Walks.{with_value}
use Rattle.pg_value_core.specs.View.{view}
use Rattle.pg_value_core.specs.declared.value.Value.{Value}

none_listed : (es : List (ℕ × NodeRecord)) → ids_in (λ _. false) es ≡ []
none_listed [] = refl
none_listed (e ∷ es) = none_listed es

null_is_not_equal : (v : meaning.Value) → is_true (eq3 meaning.null v) ≡ false
null_is_not_equal v = refl

-- what is absent equals nothing
equal_or_absent : (o : Option meaning.Value) (v : Value) → is_true (eq3 (unwrap_or o meaning.null) (view v)) ≡ option_map_or (λ w. is_equal w v) o false
equal_or_absent None v = null_is_not_equal (view v)
equal_or_absent (Some w) v = refl

abbrev found_at : Option ℕ → Option ℕ → Value → NodeRecord → Bool
found_at label key v n = option_map_or (λ l. list_any (λ m. m == l) n.labels) label false && is_true (eq3 (option_map_or (λ k. unwrap_or (map.get n.properties k) meaning.null) key meaning.null) (view v))

module _ (names : List (List ℕ)) (c : Content) (i j : ℕ) (t u : List ℕ) (v : Value) where
  listed : (label key : Option ℕ) → Holds names c i j → position (bytes_eq t) names ≡ label → position (bytes_eq u) names ≡ key → with_value (graph_of names c i j) t u (view v) ≡ ids_where (found_at label key v) c.nodes
  listed label key h is at =
      ids_mapped (node_of names) (λ n. is_among n.labels t && is_true (eq3 (value_at u n.properties) (view v))) (map.entries c.nodes)
      ∙ same_ids (λ n. is_among (label_texts names n.labels) t && is_true (eq3 (value_at u (property_entries names n.properties)) (view v))) (found_at label key v) c.nodes
      (λ k n there.
      ap (λ b. b && is_true (eq3 (value_at u (property_entries names n.properties)) (view v))) (label_is_read names n.labels t h.distinct (h.nodes k n there).labels ∙ ap (λ o. option_map_or (λ l. list_any (λ m. m == l) n.labels) o false) is)
      ∙ ap (λ x. option_map_or (λ l. list_any (λ m. m == l) n.labels) label false && is_true (eq3 x (view v)))
      (property_is_read names n.properties u h.distinct (h.nodes k n there).keys ∙ ap (λ o. option_map_or (λ k. unwrap_or (map.get n.properties k) meaning.null) o meaning.null) at))

  pub valued_listed : (l k : ℕ) → Holds names c i j → position (bytes_eq t) names ≡ Some l → position (bytes_eq u) names ≡ Some k → with_value (graph_of names c i j) t u (view v) ≡ ids_where (is_found_by l k v) c.nodes
  valued_listed l k h is at =
      listed (Some l) (Some k) h is at
      ∙ same_ids (found_at (Some l) (Some k) v) (is_found_by l k v) c.nodes (λ q n there. ap (λ b. list_any (λ m. m == l) n.labels && b) (equal_or_absent (map.get n.properties k) v))

  pub no_label_valued : Holds names c i j → position (bytes_eq t) names ≡ None → with_value (graph_of names c i j) t u (view v) ≡ []
  no_label_valued h is =
      listed None (position (bytes_eq u) names) h is refl ∙ same_ids (found_at None (position (bytes_eq u) names) v) (λ _. false) c.nodes (λ q n there. refl) ∙ none_listed (map.entries c.nodes)

  pub no_key_valued : Holds names c i j → position (bytes_eq u) names ≡ None → with_value (graph_of names c i j) t u (view v) ≡ []
  no_key_valued h at =
      listed (position (bytes_eq t) names) None h refl at
      ∙ same_ids (found_at (position (bytes_eq t) names) None v) (λ _. false) c.nodes (λ q n there. and-false (option_map_or (λ l. list_any (λ m. m == l) n.labels) (position (bytes_eq t) names) false))
      ∙ none_listed (map.entries c.nodes)
