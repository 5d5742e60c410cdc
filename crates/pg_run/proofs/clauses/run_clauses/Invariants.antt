use Rattle.std.proofs.Common.{◌≡◌, ◌∷◌, [], map, drop}
use Rattle.std.specs.Prelude.{fold}
use Rattle.pg_meaning.specs.Plans.{IsPlanFrom}
use Rattle.pg_meaning.specs.Queries.{clauses_run}
use Rattle.pg_meaning.specs.Scopes.{scope_after}
use Rattle.pg_rows.specs.States.{seen, state_of}
use Rattle.pg_run.proofs.clauses.run_clauses.Given as goal
use Rattle.pg_run.specs.Runs.{plan_view, quota_of}
use Rattle.pg_syntax_tree.specs.View.{clause_view}
use Rattle.pg_value_core.specs.Given.{parameters_view}

-- the rows so far with the clauses to come give what all clauses do
abbrev pub invariant-loop-clause : goal.invariant-loop-clause
invariant-loop-clause g l = record {
  left : clauses_run (parameters_view l.query.parameters.now) (quota_of l.meter.limit l.query.max_elements) (seen l.table).names (plan_view l.left) (map clause_view (drop l.clause-index l.clauses)) (state_of l.live.graph (seen l.table) l.meter.used)
      ≡ clauses_run (parameters_view l.query.parameters.now) (quota_of l.fn.meter.limit l.query.max_elements) [] (plan_view l.fn.plan) (map clause_view l.clauses) (state_of l.fn.live.graph (record { names = []; rows = [] ∷ [] }) l.fn.meter.used);
  names : fold scope_after (seen l.table).names (map clause_view (drop l.clause-index l.clauses)) ≡ fold scope_after [] (map clause_view l.clauses);
  limit : l.meter.limit ≡ l.fn.meter.limit;
  planned : IsPlanFrom (seen l.table).names (map clause_view (drop l.clause-index l.clauses)) (plan_view l.left);
  aside : l.live.aside ≡ l.fn.live.aside;
}
