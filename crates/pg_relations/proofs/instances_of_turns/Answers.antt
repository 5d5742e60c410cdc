use Rattle.pg_relations.proofs.RefusedTurns.{refused_turns}
use Rattle.pg_relations.proofs.instances_of_turns.Goals as goal

pub returns : goal.returns
returns c = refused_turns
