use Rattle.pg_relations.proofs.CreatesDecided.{create_row_is_one, merge_row_is_one}
use Rattle.pg_relations.proofs.DescribedPlaces.{create_describes_new, merge_describes_new}
use Rattle.pg_relations.proofs.law_of_creating.Goals as goal

pub returns-clause-created : goal.returns-clause-created
returns-clause-created c = create_describes_new

pub returns-clause-merged : goal.returns-clause-merged
returns-clause-merged c = merge_describes_new

pub returns-clause-creates : goal.returns-clause-creates
returns-clause-creates c = create_row_is_one

pub returns-clause-merges : goal.returns-clause-merges
returns-clause-merges c = merge_row_is_one
