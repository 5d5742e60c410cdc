use Rattle.std.proofs.Common.{drop}
use Rattle.pg_rows.specs.Tables.{table}
use Rattle.pg_run.proofs.Tells.{RowsTold}
use Rattle.pg_run.proofs.tables.tell_rows.Given as goal

abbrev pub invariant-loop-at : goal.invariant-loop-at
invariant-loop-at g l = RowsTold l.graph (table l.rows) (drop l.at (table l.rows)) l.initial.telling l.telling
