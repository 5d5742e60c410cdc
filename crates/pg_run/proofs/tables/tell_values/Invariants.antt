use Rattle.std.proofs.Common.{drop, map}
use Rattle.pg_run.proofs.Tells.{ValuesTold}
use Rattle.pg_value_core.specs.View.{view}
use Rattle.pg_run.proofs.tables.tell_values.Given as goal

abbrev pub invariant-loop-value : goal.invariant-loop-value
invariant-loop-value g l = ValuesTold l.graph (map view l.row) (map view (drop l.value-index l.row)) l.initial.telling l.telling
