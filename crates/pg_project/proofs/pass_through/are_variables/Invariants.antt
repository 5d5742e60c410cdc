use Rattle.std.proofs.Common.{◌≡◌, drop}
use Rattle.pg_project.specs.Items.{expressions_view}
use Rattle.pg_project.specs.PassThrough.{are_variables}
use Rattle.pg_project.proofs.pass_through.are_variables.Given as goal

abbrev pub invariant-loop-at : goal.invariant-loop-at
invariant-loop-at l = are_variables l.names 0 (expressions_view l.item-items) ≡ are_variables l.names l.at (expressions_view (drop l.at l.item-items))
