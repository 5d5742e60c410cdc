-- The stores in which graphs are held, over the names and the part of the tables that all share.
use Rattle.std.specs.Prelude.{◌≡◌, ℕ, ◌<◌, List, [], Option, None, length, slice_index_or, IfSome}
use Rattle.pg_graph.specs.Content.{Seen}
use Rattle.pg_live.specs.Live.{Begun, Live, graphs_of}
use Rattle.pg_meaning.specs.Graph.{Graph, empty_graph}
use Rattle.pg_store.specs.Stores.{graph_of_store, graph_at, index_pairs, IsFit, HasMark}
use Rattle.pg_store.specs.declared.journal.Mark.{Mark}
use Rattle.pg_store.specs.declared.shared.Shared.{Shared}
use Rattle.pg_store.specs.declared.store.Store.{Store}

-- what the stores share, whatever set K keeps the texts of the names: nothing is said of it
abbrev pub shared_of : {X K : Type 0} → Live X → Shared X K
shared_of l = record { names = l.names; tables = l.tables }

-- this store can be taken back to this graph
pub record GoesBackTo {T S K : Type 0} (seen : Seen T S) (store : Store T) (shared : Shared S K) (graph : Graph) : Type 0 where
  pub mark : Mark
  pub there : HasMark seen store shared mark
  pub same : graph_at seen store shared mark ≡ graph

-- this graph is held in a store of this owner over these names and this part of the tables, and that at the begin of the open transaction;
-- and the store has these indexes
pub record HoldsGraph {T S K : Type 0} (seen : Seen T S) (shared : Shared S K) (owner : ℕ) (wanted : Graph) (begun : Option Begun) (pairs : List (ℕ × ℕ)) : Type 0 where
  pub store : Store T
  pub own : seen.owner store.tables ≡ owner
  pub fit : IsFit seen store shared
  pub graph : graph_of_store seen store shared ≡ wanted
  pub back : IfSome begun (λ b. GoesBackTo seen store shared b.graph)
  pub indexes : index_pairs store ≡ pairs

-- the graph of each place, by its owner
abbrev pub HoldGraphs : {T S : Type 0} → Seen T S → Live S → Type 0
HoldGraphs seen l = (place : ℕ) → place < length (graphs_of l) → HoldsGraph seen (shared_of {K = Unit {0}} l) place (slice_index_or (graphs_of l) place empty_graph) (slice_index_or l.aside.begins place None) (slice_index_or l.aside.pairs place [])
