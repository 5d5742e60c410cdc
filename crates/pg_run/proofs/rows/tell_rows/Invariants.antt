use Rattle.std.proofs.Common.{drop}
use Rattle.pg_project.specs.Cuts.{cut_view}
use Rattle.pg_project.specs.Given.{trees_of, values_given}
use Rattle.pg_run.proofs.Returns.{RowsSoFar}
use Rattle.pg_rows.specs.Tables.{table}
use Rattle.pg_value_core.specs.Given.{parameters_view}
use Rattle.pg_run.proofs.rows.tell_rows.Given as goal

abbrev pub invariant-loop-at : goal.invariant-loop-at
invariant-loop-at g l =
    RowsSoFar l.graph (cut_view l.cut) (values_given (parameters_view l.items.query.now.parameters.now) l.graph l.items.names.now (trees_of l.items.names.now l.items.ready.now)) (table l.rows) (drop l.at (table l.rows)) l.at l.initial.telling l.telling
