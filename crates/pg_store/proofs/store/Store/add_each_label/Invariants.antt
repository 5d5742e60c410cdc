use Rattle.std.proofs.Common.{◌≡◌, true, drop}
use Rattle.pg_meaning.specs.Names.{put_texts}
use Rattle.pg_meaning.specs.Graph.{Node, change_node, has_node}
use Rattle.pg_store.proofs.store.Store.add_each_label.Given as goal
use Rattle.pg_store.specs.Stores.{graph_of_store, IsFit, KeepsMarks, KeepsShared, texts_of}

-- what is done so far, with what is to come, is all
abbrev pub invariant-loop-text : goal.invariant-loop-text
invariant-loop-text g l = record {
  graph : change_node (λ (e : Node). record e { labels = put_texts (texts_of (drop l.text-index l.labels.items)) e.labels }) l.id.0 (graph_of_store g.T.Tables.seen l.self l.shared) ≡ change_node (λ (e : Node). record e { labels = put_texts (texts_of l.labels.items) e.labels }) l.fn.id.0 (graph_of_store g.T.Tables.seen l.fn.self l.fn.shared);
  there : has_node (graph_of_store g.T.Tables.seen l.self l.shared) l.id.0 ≡ true;
  marks : KeepsMarks g.T.Tables.seen l.fn.self l.fn.shared l.self l.shared;
  fit : IsFit g.T.Tables.seen l.self l.shared;
  keeps : KeepsShared g.T.Tables.seen l.fn.self l.fn.shared l.self l.shared;
}
