use Rattle.pg_names.proofs.Interned.{taken_back}
use Rattle.pg_names.proofs.names.law_of_names.Goals as goal

pub returns : goal.returns
returns c = taken_back
