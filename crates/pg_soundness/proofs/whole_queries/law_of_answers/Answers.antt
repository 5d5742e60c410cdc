use Rattle.pg_soundness.proofs.WholeQueriesAnswers.{answers_are_meant, answers_continue, reading_answers_leave_the_graph, answers_fit_columns}
use Rattle.pg_soundness.proofs.whole_queries.law_of_answers.Goals as goal

pub returns-clause-graphs : goal.returns-clause-graphs
returns-clause-graphs c = answers_continue

pub returns-clause-reading : goal.returns-clause-reading
returns-clause-reading c = reading_answers_leave_the_graph

pub returns-clause-columns : goal.returns-clause-columns
returns-clause-columns c = answers_fit_columns

pub returns-clause-meant : goal.returns-clause-meant
returns-clause-meant c = answers_are_meant
