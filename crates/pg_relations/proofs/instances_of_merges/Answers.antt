use Rattle.pg_relations.proofs.RefusedMerges.{refused_merges}
use Rattle.pg_relations.proofs.instances_of_merges.Goals as goal

pub returns : goal.returns
returns c = refused_merges
