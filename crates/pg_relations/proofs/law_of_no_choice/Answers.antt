use Rattle.pg_relations.proofs.ClausesExact.{create_gives_one, create_is_one, merge_gives_one, merge_is_one}
use Rattle.pg_relations.proofs.law_of_no_choice.Goals as goal

pub returns-clause-creates : goal.returns-clause-creates
returns-clause-creates c = create_gives_one

pub returns-clause-created : goal.returns-clause-created
returns-clause-created c = create_is_one

pub returns-clause-merges : goal.returns-clause-merges
returns-clause-merges c = merge_gives_one

pub returns-clause-merged : goal.returns-clause-merged
returns-clause-merged c = merge_is_one
