use Rattle.std.proofs.Common.{◌≡◌, ◌++◌, drop}
use Rattle.pg_project.specs.Columns.{trees_in, variable_trees}
use Rattle.pg_project.proofs.columns.variables.Given as goal

abbrev pub invariant-loop-at : goal.invariant-loop-at
invariant-loop-at l = trees_in l.found.items ++ variable_trees (drop l.at l.names) ≡ variable_trees l.names
