-- What a call that may change a store leaves behind.
use Rattle.std.specs.Prelude.{◌≡◌, Result, OnErr}
use Rattle.pg_graph.specs.Content.{Seen}
use Rattle.pg_meaning.specs.Graph.{Graph}
use Rattle.pg_store.specs.Stores.{graph_of_store, IsFit, KeepsShared}
use Rattle.pg_store.specs.declared.shared.Shared.{Shared}
use Rattle.pg_store.specs.declared.store.Store.{Store}

-- the graphs before and after are as it says, and the same after an error; the store fits again, and what others keep stays
pub record Changes {T S K X E : Type 0} (seen : Seen T S) (old : Store T) (before : Shared S K) (new : Store T) (after : Shared S K) (result : Result X E) (Says : Graph → Graph → Type 0) : Type 0 where
  pub says : Says (graph_of_store seen old before) (graph_of_store seen new after)
  pub same : OnErr result (graph_of_store seen new after ≡ graph_of_store seen old before)
  pub fit : IsFit seen new after
  pub keeps : KeepsShared seen old before new after
