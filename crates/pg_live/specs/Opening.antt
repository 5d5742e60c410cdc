-- Stores that were just made, one for each place.
use Rattle.std.specs.Prelude.{◌≡◌, ℕ, ◌<◌, List, [], length, slice_index_or}
use Rattle.pg_graph.specs.Content.{Seen}
use Rattle.pg_meaning.specs.Graph.{empty_graph}
use Rattle.pg_names.specs.Names.{AreDistinct}
use Rattle.pg_store.specs.Stores.{graph_of_store, index_pairs, IsFit}
use Rattle.pg_store.specs.declared.shared.Shared.{Shared}
use Rattle.pg_store.specs.declared.store.Store.{Store}

-- a store that was just made for this place, over any names, whatever set keeps them, and each part that its owner doesn't use
pub record Opens {T S : Type 0} (seen : Seen T S) (store : Store T) (owner : ℕ) : Type 0 where
  pub own : seen.owner store.tables ≡ owner
  pub fit : (shared : Shared S (Unit {0})) → AreDistinct shared.names → seen.is_unused owner shared.tables → IsFit seen store shared
  pub empty : (shared : Shared S (Unit {0})) → seen.is_unused owner shared.tables → graph_of_store seen store shared ≡ empty_graph
  pub indexes : index_pairs store ≡ []

-- so many of them
pub record AreOpening {T S : Type 0} (seen : Seen T S) (count : ℕ) (stores : List (Store T)) : Type 0 where
  pub all : length stores ≡ count
  pub opens : (k : ℕ) (d : Store T) → k < length stores → Opens seen (slice_index_or stores k d) k
