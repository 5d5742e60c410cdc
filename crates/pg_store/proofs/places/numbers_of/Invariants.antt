use Rattle.pg_names.specs.Names.{AreDistinct, KeepsNames}
use Rattle.pg_graph.specs.Refinement.{AreNamed}
use Rattle.pg_store.proofs.places.numbers_of.Given as goal

abbrev pub invariant-loop-text : goal.invariant-loop-text
invariant-loop-text g l = record {
  named : AreNamed l.names l.keys.items;
  keeps : KeepsNames l.fn.names l.names;
  distinct : AreDistinct l.names;
}
