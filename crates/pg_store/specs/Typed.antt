-- The relationships of one type, found by the number of the type's text.
use Rattle.std.specs.Prelude.{◌≡◌, ℕ, List, Option, Some, None, cond, position, bytes_eq, refl}
use Rattle.std.specs.Coded.{Coded, code_by, coded×, coded_ℕ, coded_list}
use Rattle.pg_graph.specs.Content.{Seen}
use Rattle.pg_meaning.specs.Graph.{Graph, Relationship}
use Rattle.pg_store.specs.GraphCode.{graph_code}
use Rattle.pg_store.specs.Stores.{IsFit}
use Rattle.pg_store.specs.declared.shared.Shared.{Shared}
use Rattle.pg_store.specs.declared.store.Store.{Store}

-- a graph, and the text of a type
pub record TypedGraph : Type 0 where
  pub graph : Graph
  pub type : List ℕ

abbrev pub typed_code : Coded TypedGraph
typed_code = code_by (Graph × List ℕ) (coded× graph_code (coded_list coded_ℕ)) (λ t. (t.graph, t.type)) (λ p. record { graph = p.0; type = p.1 }) (λ _. refl)

-- a relationship that may be there, if it is of the type
abbrev pub of_type : List ℕ → Option Relationship → Option Relationship
of_type type None = None
of_type type (Some rel) = cond (bytes_eq rel.type type) (Some rel) None

-- the store can be read, and the number is the text's, if it has one
pub record IsNumbered {T S K : Type 0} (seen : Seen T S) (store : Store T) (shared : Shared S K) (type : List ℕ) (number : Option ℕ) : Type 0 where
  pub fit : IsFit seen store shared
  pub is : position (bytes_eq type) shared.names ≡ number
