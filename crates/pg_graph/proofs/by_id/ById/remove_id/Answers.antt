use Rattle.std.proofs.Common.{ap, ◌∙◌}
use Rattle.std.specs.FinMap as map
use Rattle.pg_graph.proofs.Maps.{entries_removed}
use Rattle.pg_graph.proofs.by_id.ById.remove_id.Goals as goal

pub returns : goal.returns
returns g c =
    entries_removed c.self.inside.kept.entries c.remove.new.self.entries c.args.id c.remove.ensures.updates.0
    ∙ ap (λ m. map.remove m c.args.id) c.self.view_is
