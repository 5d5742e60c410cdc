use Rattle.std.proofs.Common.{◌≡◌, take}
use Rattle.pg_project.proofs.pass_through.same_names.Given as goal

abbrev pub invariant-loop-at : goal.invariant-loop-at
invariant-loop-at l = take l.at l.columns ≡ take l.at l.names
