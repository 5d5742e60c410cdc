use Rattle.std.proofs.Common.{sym, ap, ◌∙◌}
use Rattle.pg_graph.proofs.Removed.{has_none}
use Rattle.pg_graph.specs.Removed.{Ids, has_id}
use Rattle.pg_index.proofs.properties.PropertyIndex.has.Goals as goal

pub returns-in-None : goal.returns-in-None
returns-in-None c = sym (has_none c.args.id) ∙ ap (λ (ids : Ids). has_id ids c.args.id) c.in-None.ensures
