use Rattle.std.proofs.Common.{sym, ap, ◌∙◌}
use Rattle.std.specs.FinMap as map
use Rattle.pg_graph.proofs.Maps.{keys_of_entries}
use Rattle.pg_graph.proofs.by_id.ById.ids.Goals as goal

pub returns-clause-ids : goal.returns-clause-ids
returns-clause-ids g c = c.keys.ensures.rest ∙ sym (keys_of_entries c.self.inside.kept.entries c.keys.ensures.ordered) ∙ ap (λ m. map.keys m) c.self.view_is
