use Rattle.pg_soundness.proofs.WholeQueriesAnswers.{reading_leaves_the_graph, changing_keeps_elements, only_makers_make, only_delete_loses, making_leaves_the_old}
use Rattle.pg_soundness.proofs.whole_queries.law_of_leaving.Goals as goal

pub returns-clause-reading : goal.returns-clause-reading
returns-clause-reading c = reading_leaves_the_graph

pub returns-clause-changing : goal.returns-clause-changing
returns-clause-changing c = changing_keeps_elements

pub returns-clause-making : goal.returns-clause-making
returns-clause-making c = only_makers_make

pub returns-clause-losing : goal.returns-clause-losing
returns-clause-losing c = only_delete_loses

pub returns-clause-old : goal.returns-clause-old
returns-clause-old c = making_leaves_the_old
