use Rattle.pg_soundness.proofs.WholeQueriesAnswers.{no_return_no_rows}
use Rattle.pg_soundness.proofs.WholeQueriesRows.{rows_fit_columns, rows_show_what_is_there}
use Rattle.pg_soundness.proofs.whole_queries.law_of_rows.Goals as goal

pub returns-clause-none : goal.returns-clause-none
returns-clause-none c = no_return_no_rows

pub returns-clause-columns : goal.returns-clause-columns
returns-clause-columns c = rows_fit_columns

pub returns-clause-shown : goal.returns-clause-shown
returns-clause-shown c = rows_show_what_is_there
