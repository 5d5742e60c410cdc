use Rattle.pg_relations.proofs.RefusedProjections.{refused_projections}
use Rattle.pg_relations.proofs.instances_of_projections.Goals as goal

pub returns : goal.returns
returns c = refused_projections
