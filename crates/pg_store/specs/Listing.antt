-- Nodes of a graph that are still to come.
use Rattle.std.specs.Prelude.{◌≡◌, ◌<◌, ℕ, List, Option, Some, None, IfSome, true, filter, length, refl}
use Rattle.std.specs.List.{AllByRecursion}
use Rattle.std.specs.Coded.{Coded, code_by, coded×, coded_ℕ, coded_list, coded_option}
use Rattle.pg_graph.specs.Content.{Seen}
use Rattle.pg_graph.specs.Refinement.{text_of}
use Rattle.pg_meaning.specs.Graph.{Graph, Node, node_at}
use Rattle.pg_meaning.specs.Names.{is_among}
use Rattle.pg_store.specs.Covers.{belongs, passes}
use Rattle.pg_store.specs.GraphCode.{graph_code}
use Rattle.pg_store.specs.Journal.{live}
use Rattle.pg_store.specs.Stores.{state_of, graph_of_store, IsFit}
use Rattle.pg_store.specs.Wanted.{wanted_key}
use Rattle.pg_store.specs.declared.shared.Shared.{Shared}
use Rattle.pg_store.specs.declared.store.Store.{Store}
use Rattle.pg_store.specs.declared.wanted.Wanted.{Wanted}
use Rattle.pg_store.specs.declared.wanted.Wanted.TheVariants as wanted

-- the graph, the ids, and the text of a label that each of the nodes has
pub record Listing : Type 0 where
  pub graph : Graph
  pub ids : List ℕ
  pub label : Option (List ℕ)

abbrev pub listing_code : Coded Listing
listing_code =
    code_by (Graph × (List ℕ × Option (List ℕ))) (coded× graph_code (coded× (coded_list coded_ℕ) (coded_option (coded_list coded_ℕ))))
    (λ l. (l.graph, (l.ids, l.label))) (λ p. record { graph = p.0; ids = p.1.0; label = p.1.1 }) (λ _. refl)

abbrev pub wanted_label : Wanted → Option ℕ
wanted_label wanted.All = None
wanted_label (wanted.Labelled label) = Some label
wanted_label (wanted.Valued label key value) = Some label

abbrev pub label_text : List (List ℕ) → Option ℕ → Option (List ℕ)
label_text names None = None
label_text names (Some label) = Some (text_of names label)

abbrev pub IsNamedLabel : List (List ℕ) → Option ℕ → Type 0
IsNamedLabel names None = Unit {0}
IsNamedLabel names (Some label) = label < length names

module _ {T S K : Type 0} (seen : Seen T S) (store : Store T) (shared : Shared S K) (w : Wanted) where
  abbrev pub listing : List ℕ → Listing
  listing ids = record {
    graph = graph_of_store seen store shared;
    ids = filter (passes (belongs (wanted_key w)) (live (state_of seen store shared)).nodes) ids;
    label = label_text shared.names (wanted_label w);
  }

  -- the store can be read, and the label that is sought is one of the table
  pub record IsListed : Type 0 where
    pub fit : IsFit seen store shared
    pub named : IsNamedLabel shared.names (wanted_label w)

  -- each of these ids is of a node that is sought
  abbrev pub AreSought : List ℕ → Type 0
  AreSought ids = AllByRecursion (λ id. passes (belongs (wanted_key w)) (live (state_of seen store shared)).nodes id ≡ true) ids

-- a node of this id is there, and has the label
pub record IsLabelled (graph : Graph) (label : Option (List ℕ)) (id : ℕ) : Type 0 where
  pub node : Node
  pub there : node_at graph id ≡ Some node
  pub has : IfSome label (λ text. is_among node.labels text ≡ true)
