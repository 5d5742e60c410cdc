use Rattle.pg_relations.proofs.RefusedCreations.{refused_creations}
use Rattle.pg_relations.proofs.instances_of_creations.Goals as goal

pub returns : goal.returns
returns c = refused_creations
