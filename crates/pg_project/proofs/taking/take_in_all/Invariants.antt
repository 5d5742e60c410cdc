use Rattle.std.proofs.Common.{◌≡◌, drop, take, length}
use Rattle.pg_project.proofs.Turns.{after}
use Rattle.pg_project.specs.Kept.{all_taken_in}
use Rattle.pg_project.specs.ReadyItems.{aggregates_view}
use Rattle.pg_expr.specs.Contexts.{given}
use Rattle.pg_project.specs.Views.{takens_view}
use Rattle.pg_project.proofs.taking.take_in_all.Given as goal

abbrev pub invariant-loop-at : goal.invariant-loop-at
invariant-loop-at g l =
    (all_taken_in (given l.context l.graph) (aggregates_view l.context.names.now l.aggregates.items) (takens_view l.fn.taken)
    ≡ after (takens_view (take l.at l.taken)) (all_taken_in (given l.context l.graph) (aggregates_view l.context.names.now (drop l.at l.aggregates.items)) (takens_view (drop l.at l.taken))))
    × (length l.taken ≡ length l.fn.taken)
