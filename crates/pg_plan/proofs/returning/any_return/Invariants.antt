use Rattle.std.proofs.Common.{◌≡◌, drop, map}
use Rattle.pg_meaning.specs.Queries.{returns}
use Rattle.pg_syntax_tree.specs.View.{clause_view}
use Rattle.pg_plan.proofs.returning.any_return.Given as goal

abbrev pub invariant-loop-clause : goal.invariant-loop-clause
invariant-loop-clause l = returns (map clause_view l.clauses.items) ≡ returns (map clause_view (drop l.clause-index l.clauses.items))
