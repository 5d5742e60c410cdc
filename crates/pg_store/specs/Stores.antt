-- One tenant's store as a graph, and what its calls are given and give in the graph's words.
use Rattle.std.specs.Prelude.{◌≡◌, ◌≢◌, ◌≤◌, ℕ, List, [], not, filter, fold, length, take, drop, map as map_list, bytes_eq, string_bytes}
use Rattle.std.specs.Borrow.{Bor}
use Rattle.pg_graph.specs.Content.{Seen, Keeps}
use Rattle.pg_meaning.specs.Graph.{Graph, Node, Relationship}
use Rattle.pg_meaning.specs.Value.{Value}
use Rattle.pg_names.specs.Names.{AreDistinct, KeepsNames}
use Rattle.pg_store.specs.Covers.{has_in, Covers, HasCovered}
use Rattle.pg_index.specs.Properties as index
use Rattle.pg_store.specs.Journal.{State, IsWell, CanUndo, NoneGone, graph_in, undone}
use Rattle.pg_store.specs.Noted.{AreNoted, HasNoted, is_in}
use Rattle.pg_store.specs.declared.journal.Mark.{Mark}
use Rattle.pg_store.specs.declared.shared.Shared.{Shared}
use Rattle.pg_store.specs.declared.store.Store.{Store}
use Rattle.pg_store.specs.declared.texts.NodeTexts.{NodeTexts}
use Rattle.pg_store.specs.declared.texts.RelTexts.{RelTexts}
use Rattle.pg_value_core.specs.View.{view, entries_view}
use Rattle.pg_value_core.specs.declared.value.Value as code

module _ {T S K : Type 0} (seen : Seen T S) (store : Store T) (shared : Shared S K) where
  abbrev pub state_of : State
  state_of = record {
    content = seen.content store.tables shared.tables;
    gone_nodes = store.gone_nodes;
    gone_rels = store.gone_rels;
    next = store.next;
    elements = store.elements;
  }

  abbrev pub graph_of_store : Graph
  graph_of_store = graph_in shared.names state_of

  -- the shared part is the store's, what it holds stands for a graph, all that was done since each mark can be undone, each
  -- node is found where it belongs, what is found where it doesn't belong is noted, and before all that can be undone nothing
  -- was removed
  pub record IsFit : Type 0 where
    pub fits : seen.fits store.tables shared.tables
    pub well : IsWell shared.names state_of
    pub journal : CanUndo shared.names store.journal.items state_of
    pub covered : HasCovered (has_in store.sets) store.journal.items state_of
    pub noted : HasNoted (is_in store.sets) store.sets.stale_ids.items store.journal.items state_of
    pub none_gone : NoneGone (undone store.journal.items state_of)

  -- the store is being settled: nothing is left to undo, and what was removed may wait in the tables still
  pub record IsSettling : Type 0 where
    pub fits : seen.fits store.tables shared.tables
    pub well : IsWell shared.names state_of
    pub journal : store.journal.items ≡ []
    pub covered : Covers (has_in store.sets) state_of
    pub noted : AreNoted (is_in store.sets) store.sets.stale_ids.items state_of

  -- the names and the state at the moment of a mark
  abbrev pub names_at : Mark → List (List ℕ)
  names_at mark = take mark.names shared.names

  abbrev pub state_at : Mark → State
  state_at mark = undone (drop mark.journal store.journal.items) state_of

  abbrev pub graph_at : Mark → Graph
  graph_at mark = graph_in (names_at mark) (state_at mark)

  -- the mark is of a moment that the store can go back to: what it held then it held by the names of then
  pub record HasMark (mark : Mark) : Type 0 where
    pub journal : mark.journal ≤ length store.journal.items
    pub names : mark.names ≤ length shared.names
    pub well : IsWell (names_at mark) (state_at mark)
    pub undo : CanUndo (names_at mark) (take mark.journal store.journal.items) (state_at mark)

-- the indexes of a store, by the numbers of their labels and keys
abbrev pub index_pairs : {T : Type 0} → Store T → List (ℕ × ℕ)
index_pairs store = index.pairs_of store.sets.indexes.items

-- the store `now` is `old` with all taken back that was done since the mark
pub record IsBack {T S K : Type 0} (seen : Seen T S) (mark : Mark) (old : Store T) (before : Shared S K) (now : Store T) (after : Shared S K) : Type 0 where
  pub state : state_of seen now after ≡ state_at seen old before mark
  pub journal : now.journal.items ≡ take mark.journal old.journal.items

-- the store `now` is `old` with some of its removed elements gone, and nothing left to undo
pub record Settles {T S K : Type 0} (seen : Seen T S) (old : Store T) (before : Shared S K) (now : Store T) (shared : Shared S K) : Type 0 where
  pub settling : IsSettling seen now shared
  pub graph : graph_of_store seen now shared ≡ graph_of_store seen old before
  pub names : shared.names ≡ before.names
  pub keeps : Keeps seen old.tables before.tables now.tables shared.tables
  pub pairs : index_pairs now ≡ index_pairs old

-- each mark of the old store is one of the new, of the same graph, and the indexes are the same
pub record KeepsMarks {T S K : Type 0} (seen : Seen T S) (old : Store T) (before : Shared S K) (new : Store T) (after : Shared S K) : Type 0 where
  pub there : (mark : Mark) → HasMark seen old before mark → HasMark seen new after mark
  pub same : (mark : Mark) → HasMark seen old before mark → graph_at seen new after mark ≡ graph_at seen old before mark
  pub pairs : index_pairs new ≡ index_pairs old

-- A call on the store `old`, lent the shared part `before`, left the store `new` and the part `after`. Nothing that
-- others have in the part of the tables changed, and each number has its text still.
pub record KeepsShared {T S K : Type 0} (seen : Seen T S) (old : Store T) (before : Shared S K) (new : Store T) (after : Shared S K) : Type 0 where
  pub tables : Keeps seen old.tables before.tables new.tables after.tables
  pub names : KeepsNames before.names after.names
  pub distinct : AreDistinct after.names

-- a store of another owner fits again, its graph is the same, and each of its marks is one still, of the same graph,
-- whatever set K keeps the names
abbrev pub OtherStoresStay : {T S : Type 0} → Type 0 → Seen T S → Type 0
OtherStoresStay {T} {S} K seen =
    (old new other : Store T) (before after : Shared S K) → KeepsShared seen old before new after → seen.owner other.tables ≢ seen.owner old.tables → IsFit seen other before
    → IsFit seen other after × (graph_of_store seen other after ≡ graph_of_store seen other before)
    × ((mark : Mark) → HasMark seen other before mark → HasMark seen other after mark × (graph_at seen other after mark ≡ graph_at seen other before mark))

abbrev pub texts_of : List (Bor (List ℕ)) → List (List ℕ)
texts_of texts = map_list (λ t. t.now) texts

-- the texts without others, one after the other
abbrev pub without_texts : (gone texts : List (List ℕ)) → List (List ℕ)
without_texts gone texts = fold (λ us t. filter (λ u. not (bytes_eq u t)) us) texts gone

abbrev pub pairs_of : List (Bor (List ℕ) × code.Value) → List (List ℕ × Value)
pairs_of pairs = map_list (λ p. (p.0.now, view p.1)) pairs

abbrev pub node_texts_view : NodeTexts → Node
node_texts_view texts = record { labels = map_list string_bytes texts.labels.items; properties = entries_view texts.properties.entries }

abbrev pub rel_texts_view : RelTexts → Relationship
rel_texts_view texts = record { type = string_bytes texts.kind; source = texts.source.0; target = texts.target.0; properties = entries_view texts.properties.entries }
