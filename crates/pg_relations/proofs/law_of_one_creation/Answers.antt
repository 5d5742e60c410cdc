use Rattle.pg_relations.proofs.CreatesDetermined.{create_row_makes_one}
use Rattle.pg_relations.proofs.law_of_one_creation.Goals as goal

pub returns : goal.returns
returns c = create_row_makes_one
