use Rattle.std.proofs.Common.{ap, ◌∙◌}
use Rattle.pg_graph.proofs.Removed.{has_none}
use Rattle.pg_graph.specs.Removed.{Ids, has_id}
use Rattle.pg_index.proofs.properties.PropertyIndex.new.Goals as goal

pub returns-clause-empty : goal.returns-clause-empty
returns-clause-empty c = λ v i. ap (λ (ids : Ids). has_id ids i) (c.new.ensures v) ∙ has_none i
