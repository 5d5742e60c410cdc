use Rattle.std.proofs.Common.{◌≡◌, ℕ, List, ◌++◌, drop}
use Rattle.pg_project.specs.Kept.{begun}
use Rattle.pg_project.specs.ReadyItems.{aggregates_view}
use Rattle.pg_project.specs.Views.{takens_view}
use Rattle.pg_project.proofs.taking.begin.Given as goal

abbrev pub invariant-loop-aggregate : goal.invariant-loop-aggregate
invariant-loop-aggregate l = (names : List (List ℕ)) → takens_view l.taken.items ++ begun (aggregates_view names (drop l.aggregate-index l.aggregates.items)) ≡ takens_view l.fn.taken.items ++ begun (aggregates_view names l.aggregates.items)
