use Rattle.std.proofs.Common.{◌≡◌, drop}
use Rattle.pg_graph.specs.Refinement.{AreNamed, label_texts}
use Rattle.pg_store.proofs.names.less_labels.Given as goal
use Rattle.pg_store.specs.Stores.{texts_of, without_texts}

-- the labels so far without the texts to come are those without all
abbrev pub invariant-loop-text : goal.invariant-loop-text
invariant-loop-text g l = record {
  labels : without_texts (texts_of (drop l.text-index l.texts.items)) (label_texts l.names l.labels) ≡ without_texts (texts_of l.texts.items) (label_texts l.names l.fn.before);
  named : AreNamed l.names l.labels;
}
