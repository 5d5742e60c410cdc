use Rattle.std.proofs.Common.{◌≡◌, ◌++◌, drop}
use Rattle.pg_project.proofs.columns.push_all.Given as goal

abbrev pub invariant-loop-at : goal.invariant-loop-at
invariant-loop-at l = l.found ++ drop l.at l.names ≡ l.fn.found ++ l.names
