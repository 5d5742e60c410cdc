-- A code by which proofs tell graphs apart.
use Rattle.std.specs.Prelude.{ℕ, List, refl}
use Rattle.std.specs.Coded.{Coded, code_by, coded×, coded_ℕ, coded_list}
use Rattle.pg_graph.specs.ValueCode.{value_code}
use Rattle.pg_meaning.specs.Graph.{Graph, Node, Relationship}
use Rattle.pg_meaning.specs.Value.{Value, mapping, Entries, no_entries}

abbrev pub entries_in : Value → Entries
entries_in (mapping es) = es
entries_in v = no_entries

abbrev pub entries_code : Coded Entries
entries_code = code_by Value value_code mapping entries_in (λ _. refl)

abbrev pub node_code : Coded Node
node_code =
    code_by (List (List ℕ) × Entries) (coded× (coded_list (coded_list coded_ℕ)) entries_code)
    (λ n. (n.labels, n.properties)) (λ p. record { labels = p.0; properties = p.1 }) (λ _. refl)

abbrev pub relationship_code : Coded Relationship
relationship_code =
    code_by (List ℕ × (ℕ × (ℕ × Entries))) (coded× (coded_list coded_ℕ) (coded× coded_ℕ (coded× coded_ℕ entries_code)))
    (λ r. (r.type, (r.source, (r.target, r.properties)))) (λ p. record { type = p.0; source = p.1.0; target = p.1.1.0; properties = p.1.1.1 }) (λ _. refl)

abbrev pub graph_code : Coded Graph
graph_code =
    code_by (List (ℕ × Node) × (List (ℕ × Relationship) × (ℕ × ℕ)))
    (coded× (coded_list (coded× coded_ℕ node_code)) (coded× (coded_list (coded× coded_ℕ relationship_code)) (coded× coded_ℕ coded_ℕ)))
    (λ g. (g.nodes, (g.relationships, (g.next_node, g.next_relationship))))
    (λ p. record { nodes = p.0; relationships = p.1.0; next_node = p.1.1.0; next_relationship = p.1.1.1 }) (λ _. refl)
