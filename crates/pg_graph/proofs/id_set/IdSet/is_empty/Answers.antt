use Rattle.std.proofs.Common.{◌∙◌}
use Rattle.pg_graph.specs.IdSets.{ids_of}
use Rattle.pg_graph.proofs.IdSetLemmas.{no_ids, held_rises}
use Rattle.pg_graph.proofs.id_set.IdSet.is_empty.Goals as goal

pub returns-clause-exact : goal.returns-clause-exact
returns-clause-exact c = λ is. c.is_empty.ensures.exact (no_ids (ids_of c.self.inside.held) (held_rises c.self.inside.held c.self.invariant) (c.self.view_is ∙ is))
