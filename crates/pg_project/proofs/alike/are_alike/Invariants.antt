use Rattle.std.proofs.Common.{map, drop}
use Rattle.pg_project.specs.Alike.{AreAlike}
use Rattle.pg_value_core.specs.View.{view}
use Rattle.pg_project.proofs.alike.are_alike.Given as goal

abbrev pub invariant-loop-column : goal.invariant-loop-column
invariant-loop-column l = AreAlike (drop l.column-index l.columns) (map view l.row) (map view l.before) → AreAlike l.columns (map view l.row) (map view l.before)
