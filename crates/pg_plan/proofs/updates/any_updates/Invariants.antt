use Rattle.std.proofs.Common.{◌≡◌, drop, map}
use Rattle.pg_plan.specs.Updates.{any_updates}
use Rattle.pg_syntax_tree.specs.View.{clause_view}
use Rattle.pg_plan.proofs.updates.any_updates.Given as goal

abbrev pub invariant-loop-clause : goal.invariant-loop-clause
invariant-loop-clause l = any_updates (map clause_view l.clauses.items) ≡ any_updates (map clause_view (drop l.clause-index l.clauses.items))
