use Rattle.pg_relations.proofs.MergesDetermined.{merge_row_makes_one, merge_items_are_one}
use Rattle.pg_relations.proofs.law_of_one_merge.Goals as goal

pub returns-clause-merges : goal.returns-clause-merges
returns-clause-merges c = merge_row_makes_one

pub returns-clause-items : goal.returns-clause-items
returns-clause-items c = merge_items_are_one
