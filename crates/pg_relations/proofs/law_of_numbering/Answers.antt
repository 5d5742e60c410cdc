use Rattle.pg_relations.proofs.ClausesNumbered.{create_makes_one, create_of_rows_is_one}
use Rattle.pg_relations.proofs.law_of_numbering.Goals as goal

pub returns-clause-creates : goal.returns-clause-creates
returns-clause-creates c = create_makes_one

pub returns-clause-created : goal.returns-clause-created
returns-clause-created c = create_of_rows_is_one
