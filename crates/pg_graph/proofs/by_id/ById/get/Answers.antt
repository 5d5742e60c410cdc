use Rattle.std.proofs.Common.{sym, ap, ◌∙◌}
use Rattle.std.specs.FinMap as map
use Rattle.pg_graph.proofs.Maps.{get_of_entries}
use Rattle.pg_graph.proofs.by_id.ById.get.Goals as goal

pub returns : goal.returns
returns g c = c.get.ensures.value ∙ sym (get_of_entries _ _) ∙ ap (λ m. map.get m c.args.id) c.self.view_is
