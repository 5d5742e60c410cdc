use Rattle.std.proofs.Common.{sym, ap, ◌∙◌}
use Rattle.std.specs.FinMap as map
use Rattle.pg_graph.specs.IdSets.{ids_of}
use Rattle.pg_graph.proofs.IdSetLemmas.{contains_is}
use Rattle.pg_graph.proofs.id_set.IdSet.surely_has.Goals as goal

pub returns : goal.returns
returns c = λ h. sym (ap (λ m. map.contains_key m c.args.id) c.self.view_is) ∙ contains_is (ids_of c.self.inside.held) c.args.id ∙ c.surely_has.ensures h
