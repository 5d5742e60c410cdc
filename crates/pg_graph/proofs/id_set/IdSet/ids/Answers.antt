use Rattle.std.proofs.Common.{sym, ap, ◌∙◌}
use Rattle.std.specs.FinMap as map
use Rattle.pg_graph.specs.IdSets.{ids_of}
use Rattle.pg_graph.proofs.IdSetLemmas.{keys_is, held_rises}
use Rattle.pg_graph.proofs.id_set.IdSet.ids.Goals as goal

pub returns : goal.returns
returns c = c.ids.ensures ∙ sym (keys_is (ids_of c.self.inside.held) (held_rises c.self.inside.held c.self.invariant)) ∙ ap (λ m. map.keys m) c.self.view_is
