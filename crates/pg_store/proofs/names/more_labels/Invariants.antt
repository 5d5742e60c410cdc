use Rattle.std.proofs.Common.{◌≡◌, drop}
use Rattle.pg_names.specs.Names.{AreDistinct, KeepsNames}
use Rattle.pg_graph.specs.Refinement.{AreNamed, label_texts}
use Rattle.pg_meaning.specs.Names.{put_texts}
use Rattle.pg_store.proofs.names.more_labels.Given as goal
use Rattle.pg_store.specs.Stores.{texts_of}

-- the labels so far with the texts to come are all
abbrev pub invariant-loop-text : goal.invariant-loop-text
invariant-loop-text g l = record {
  labels : put_texts (texts_of (drop l.text-index l.texts.items)) (label_texts l.names l.labels) ≡ put_texts (texts_of l.texts.items) (label_texts l.fn.names l.fn.before);
  named : AreNamed l.names l.labels;
  keeps : KeepsNames l.fn.names l.names;
  distinct : AreDistinct l.names;
}
