use Rattle.std.proofs.Common.{◌≡◌, true}
use Rattle.std.specs.Vec.Iter.{into_iter_items}
use Rattle.pg_meaning.specs.Entries.{set_keys}
use Rattle.pg_meaning.specs.Graph.{Relationship, change_relationship, has_relationship}
use Rattle.pg_store.proofs.store.Store.set_each_rel_key.Given as goal
use Rattle.pg_store.specs.Stores.{graph_of_store, IsFit, KeepsMarks, KeepsShared, pairs_of}

-- what is done so far, with what is to come, is all
abbrev pub invariant-loop-key : goal.invariant-loop-key
invariant-loop-key g l = record {
  graph : change_relationship (λ (e : Relationship). record e { properties = set_keys (pairs_of (into_iter_items l.key-iterator)) e.properties }) l.id.0 (graph_of_store g.T.Tables.seen l.self l.shared) ≡ change_relationship (λ (e : Relationship). record e { properties = set_keys (pairs_of l.fn.pairs.items) e.properties }) l.fn.id.0 (graph_of_store g.T.Tables.seen l.fn.self l.fn.shared);
  there : has_relationship (graph_of_store g.T.Tables.seen l.self l.shared) l.id.0 ≡ true;
  marks : KeepsMarks g.T.Tables.seen l.fn.self l.fn.shared l.self l.shared;
  fit : IsFit g.T.Tables.seen l.self l.shared;
  keeps : KeepsShared g.T.Tables.seen l.fn.self l.fn.shared l.self l.shared;
}
