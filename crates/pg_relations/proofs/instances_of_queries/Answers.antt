use Rattle.pg_relations.proofs.RefusedQueries.{refused_queries}
use Rattle.pg_relations.proofs.instances_of_queries.Goals as goal

pub returns : goal.returns
returns c = refused_queries
