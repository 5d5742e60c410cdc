use Rattle.pg_relations.proofs.RefusedMatches.{refused_matches}
use Rattle.pg_relations.proofs.instances_of_matches.Goals as goal

pub returns : goal.returns
returns c = refused_matches
