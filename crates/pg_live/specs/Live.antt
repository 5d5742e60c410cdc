-- What a live graph is to its callers.
use Rattle.std.specs.Prelude.{◌≡◌, ◌≢◌, ◌<◌, ◌≤◌, ℕ, List, [], Option, Some, None, length, map, zip, slice_index_or, slice_set}
use Rattle.std.specs.Option.{option_map, option_map_or}
use Rattle.pg_graph.specs.Content.{Seen}
use Rattle.pg_live.specs.declared.transactions.Begin.{Begin}
use Rattle.pg_meaning.specs.Graph.{Graph}
use Rattle.pg_store.specs.Stores.{graph_of_store, graph_at, index_pairs, names_at, IsFit, HasMark}
use Rattle.pg_store.specs.declared.journal.Mark.{Mark}
use Rattle.pg_store.specs.declared.shared.Shared.{Shared}
use Rattle.pg_store.specs.declared.store.Store.{Store}

-- a transaction that is open: whose it is, by a number of the caller's, and the graph at its begin
pub record Begun : Type 0 where
  pub holder : ℕ
  pub graph : Graph

-- what stays while a graph is changed: its place among all, what it was when the work began, the graphs of all other
-- places (the empty one at its own), the names of then, and for each place the transaction that is open there and the
-- indexes that its graph has, by the numbers of their labels and keys
pub record Aside : Type 0 where
  pub place : ℕ
  pub begun : Graph
  pub others : List Graph
  pub names : List (List ℕ)
  pub begins : List (Option Begun)
  pub pairs : List (List (ℕ × ℕ))

-- the graph, the names that all have, the part X that the tables of all share, and what stays
pub record Live (X : Type 0) : Type 0 where
  pub graph : Graph
  pub names : List (List ℕ)
  pub tables : X
  pub aside : Aside

-- the graphs of all places
abbrev pub graphs_of : {X : Type 0} → Live X → List Graph
graphs_of l = slice_set l.aside.others l.aside.place l.graph

-- the transactions that are open, for each place
abbrev pub begins_of : {X : Type 0} → Live X → List (Option Begun)
begins_of l = l.aside.begins

-- what stays, where work begins anew at this graph and these names
abbrev pub begun_at : Graph → List (List ℕ) → Aside → Aside
begun_at graph names a = record { place = a.place; begun = graph; others = a.others; names = names; begins = a.begins; pairs = a.pairs }

-- the transaction that is open at the graph at work
abbrev pub open_at : Aside → Option Begun
open_at a = slice_index_or a.begins a.place None

-- what stays, where this transaction or none is open at the graph at work
abbrev pub with_open : Option Begun → Aside → Aside
with_open begun a = record { place = a.place; begun = a.begun; others = a.others; names = a.names; begins = slice_set a.begins a.place begun; pairs = a.pairs }

-- what stays, where this holder's transaction begins at the graph and the names of now
abbrev pub begun_by : {X : Type 0} → ℕ → Live X → Aside
begun_by holder l = with_open (Some (record { holder = holder; graph = l.graph })) (begun_at l.graph l.names l.aside)

-- what stays, where the transaction ends and work begins anew at this graph
abbrev pub ended_at : {X : Type 0} → Graph → Live X → Aside
ended_at graph l = with_open None (begun_at graph l.names l.aside)

-- the indexes of the graph at work
abbrev pub pairs_at : Aside → List (ℕ × ℕ)
pairs_at a = slice_index_or a.pairs a.place []

-- what stays, where the graph at work has these indexes
abbrev pub with_pairs : List (ℕ × ℕ) → Aside → Aside
with_pairs pairs a = record { place = a.place; begun = a.begun; others = a.others; names = a.names; begins = a.begins; pairs = slice_set a.pairs a.place pairs }

-- the graph at the begin of the transaction that is open at the graph at work, or that graph where none is
abbrev pub graph_back : {X : Type 0} → Live X → Graph
graph_back l = option_map_or (λ b. b.graph) (open_at l.aside) l.graph

-- the transactions that were begun with these stores
abbrev pub begun_in : {T S K : Type 0} → Seen T S → Shared S K → Store T → Begin → Begun
begun_in seen shared store begin = record { holder = begin.holder; graph = graph_at seen store shared begin.mark }

abbrev pub all_begun : {T S K : Type 0} → Seen T S → Shared S K → List (Option Begin) → List (Store T) → List (Option Begun)
all_begun seen shared begins stores = map (λ p. option_map (begun_in seen shared p.1) p.0) (zip begins stores)

module _ {T S K : Type 0} (seen : Seen T S) (store : Store T) (others : List (Store T)) (shared : Shared S K) (place : ℕ) (mark : Mark) where
  -- the shared part, with the names of the mark
  abbrev pub shared_then : Shared S K
  shared_then = record { names = names_at seen store shared mark; tables = shared.tables }

  module _ (begins : List (Option Begin)) where
    abbrev pub aside_of : Aside
    aside_of = record {
      place = place;
      begun = graph_at seen store shared mark;
      others = map (λ s. graph_of_store seen s shared_then) others;
      names = names_at seen store shared mark;
      begins = all_begun seen shared_then begins (slice_set others place store);
      pairs = map index_pairs (slice_set others place store);
    }

    abbrev pub live_of : Live S
    live_of = record { graph = graph_of_store seen store shared; names = shared.names; tables = shared.tables; aside = aside_of }

    -- The graph at work can be taken back to the mark. All other stores fit the part with the names of then. A store's
    -- owner is its place; a spare one stands at the place of that at work. Each store can be taken back to the begin of
    -- the transaction that is open at its place, which at the graph at work isn't after the mark.
    pub record IsLive : Type 0 where
      pub fit : IsFit seen store shared
      pub marked : HasMark seen store shared mark
      pub fits : (k : ℕ) (d : Store T) → k < length others → IsFit seen (slice_index_or others k d) shared_then
      pub within : place < length others
      pub mine : seen.owner store.tables ≡ place
      pub spare : (d : Store T) → seen.owner (slice_index_or others place d).tables ≡ length others
      pub own : (k : ℕ) (d : Store T) → k < length others → k ≢ place → seen.owner (slice_index_or others k d).tables ≡ k
      pub each : length begins ≡ length others
      pub opened : (k : ℕ) (d : Store T) (b : Begin) → slice_index_or begins k None ≡ Some b → HasMark seen (slice_index_or (slice_set others place store) k d) shared_then b.mark
      pub earlier : (b : Begin) → slice_index_or begins place None ≡ Some b → b.mark.journal ≤ mark.journal
