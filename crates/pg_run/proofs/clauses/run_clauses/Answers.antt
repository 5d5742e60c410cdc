use Rattle.std.proofs.Common.{◌≡◌, ◌∷◌, map, drop, ◌+◌, Ok, refl, sym, subst, ap, ◌∙◌}
use Rattle.std.proofs.lemmas.List.{drop_all, drop_more}
use Rattle.std.specs.Prelude.{fold}
use Rattle.pg_meaning.specs.Plans.{ArePlanned, IsPlanFrom}
use Rattle.pg_meaning.specs.Queries.{clause_step, clauses_run, first_anchors}
use Rattle.pg_meaning.specs.Scopes.{scope_after}
use Rattle.pg_rows.specs.States.{Named, seen, state_of}
use Rattle.pg_run.proofs.NextClause.{next_clause, no_clause}
use Rattle.pg_run.proofs.Planned.{first_planned, others_planned}
use Rattle.pg_run.specs.Runs.{plan_view, quota_of, setting_of}
use Rattle.pg_syntax_tree.specs.View.{clause_view}
use Rattle.pg_value_core.specs.Given.{parameters_view}
use Rattle.pg_write.proofs.ExitLemmas.{gives_fault}
use Rattle.pg_run.proofs.clauses.run_clauses.Goals as goal

pub loop-clause-init : goal.loop-clause-init
loop-clause-init g c =
    let begun = c.in_ok-table.ensures in
    let clauses = map clause_view c.args.clauses.now in
    let plan = plan_view c.args.plan.now in
    record {
      left = ap (λ (t : Named). clauses_run (parameters_view c.args.query.now.parameters.now) (quota_of c.args.meter.now.limit c.args.query.now.max_elements) t.names plan clauses (state_of c.args.live.now.graph t c.args.meter.now.used)) begun;
      names = ap (λ (t : Named). fold scope_after t.names clauses) begun;
      limit = refl;
      planned = subst (λ (t : Named). IsPlanFrom t.names clauses plan) (sym begun) c.requires.planned;
      aside = refl;
    }

pub run_clause-requires : goal.run_clause-requires
run_clause-requires g c =
    let names = c.loop-clause.table.names in
    let plan = plan_view c.loop-clause.left.now in
    let clause = clause_view c.clause-item.result in
    let i = c.loop-clause.clause-index in
    let split : drop i c.args.clauses.now ≡ c.clause-item.result ∷ drop (i + 1) c.args.clauses.now =
    drop_more c.args.clauses.now i c.clause-item.result c.loop-clause-test.true ∙ ap (λ x. x ∷ drop (i + 1) c.args.clauses.now) (sym c.clause-item.is) in
    let here : IsPlanFrom names (clause ∷ map clause_view (drop (i + 1) c.args.clauses.now)) plan = subst (λ xs. IsPlanFrom names (map clause_view xs) plan) split c.loop-clause.invariant.planned in
    record { planned = subst (λ a. ArePlanned names clause a) (sym c.anchors_first.ensures.first) (first_planned names clause (map clause_view (drop (i + 1) c.args.clauses.now)) plan here) }

pub loop-clause-preserved : goal.loop-clause-preserved
loop-clause-preserved g c =
    let parameters = parameters_view c.args.query.now.parameters.now in
    let limit = c.loop-clause.meter.limit in
    let elements = c.args.query.now.max_elements in
    let names = c.loop-clause.table.names in
    let plan = plan_view c.loop-clause.left.now in
    let clause = clause_view c.clause-item.result in
    let i = c.loop-clause.clause-index in
    let later = map clause_view (drop (i + 1) c.args.clauses.now) in
    let before = state_of c.loop-clause.live.graph (seen c.loop-clause.table) c.loop-clause.meter.used in
    let after = state_of c.run_clause.new.live.graph (seen c.in_ok-table-2.table) c.run_clause.new.meter.used in
    let says : clause_step (setting_of parameters limit elements names (first_anchors plan)) clause before ≡ Ok after =
    subst (λ a. clause_step (setting_of parameters limit elements names a) clause before ≡ Ok after) c.anchors_first.ensures.first c.in_ok-table-2.ensures.gives.ok in
    let step = next_clause parameters limit elements names plan clause later before after says in
    let split : drop i c.args.clauses.now ≡ c.clause-item.result ∷ drop (i + 1) c.args.clauses.now =
    drop_more c.args.clauses.now i c.clause-item.result c.loop-clause-test.true ∙ ap (λ x. x ∷ drop (i + 1) c.args.clauses.now) (sym c.clause-item.is) in
    let here : IsPlanFrom names (clause ∷ later) plan = subst (λ xs. IsPlanFrom names (map clause_view xs) plan) split c.loop-clause.invariant.planned in
    record {
      left =
          ap (λ m. clauses_run parameters (quota_of m elements) c.in_ok-table-2.table.names (plan_view c.anchors_first.result.1.now) later after) c.run_clause.ensures.limit
          ∙ ap (λ ns. clauses_run parameters (quota_of limit elements) ns (plan_view c.anchors_first.result.1.now) later after) c.in_ok-table-2.ensures.names
          ∙ ap (λ p. clauses_run parameters (quota_of limit elements) (scope_after names clause) p later after) c.anchors_first.ensures.others
          ∙ sym step
          ∙ sym (ap (λ xs. clauses_run parameters (quota_of limit elements) names plan (map clause_view xs) before) split)
          ∙ c.loop-clause.invariant.left;
      names =
          ap (λ ns. fold scope_after ns later) c.in_ok-table-2.ensures.names
          ∙ sym (ap (λ xs. fold scope_after names (map clause_view xs)) split)
          ∙ c.loop-clause.invariant.names;
      limit = c.run_clause.ensures.limit ∙ c.loop-clause.invariant.limit;
      planned =
          subst (λ ns. IsPlanFrom ns later (plan_view c.anchors_first.result.1.now)) (sym c.in_ok-table-2.ensures.names)
          (subst (λ p. IsPlanFrom (scope_after names clause) later p) (sym c.anchors_first.ensures.others) (others_planned names clause later plan here));
      aside = c.run_clause.ensures.aside ∙ c.loop-clause.invariant.aside;
    }

pub returns-in_err-table-2-clause-gives : goal.returns-in_err-table-2-clause-gives
returns-in_err-table-2-clause-gives g c =
    let parameters = parameters_view c.args.query.now.parameters.now in
    let limit = c.loop-clause.meter.limit in
    let elements = c.args.query.now.max_elements in
    let names = c.loop-clause.table.names in
    let plan = plan_view c.loop-clause.left.now in
    let clause = clause_view c.clause-item.result in
    let i = c.loop-clause.clause-index in
    let later = map clause_view (drop (i + 1) c.args.clauses.now) in
    let before = state_of c.loop-clause.live.graph (seen c.loop-clause.table) c.loop-clause.meter.used in
    let split : drop i c.args.clauses.now ≡ c.clause-item.result ∷ drop (i + 1) c.args.clauses.now =
    drop_more c.args.clauses.now i c.clause-item.result c.loop-clause-test.true ∙ ap (λ x. x ∷ drop (i + 1) c.args.clauses.now) (sym c.clause-item.is) in
    gives_fault c.from_residual-in_err-table-2.result _ _ _ c.from_residual-in_err-table-2.ensures.1
    (λ other. sym c.loop-clause.invariant.left
    ∙ ap (λ xs. clauses_run parameters (quota_of limit elements) names plan (map clause_view xs) before) split
    ∙ no_clause parameters limit elements names plan clause later before _
    (sym (ap (λ a. clause_step (setting_of parameters limit elements names a) clause before) c.anchors_first.ensures.first) ∙ c.in_err-table-2.ensures.gives.err other))

pub returns-in_err-table-2-clause-limit : goal.returns-in_err-table-2-clause-limit
returns-in_err-table-2-clause-limit g c = c.run_clause.ensures.limit ∙ c.loop-clause.invariant.limit

pub returns-in_err-table-2-clause-aside : goal.returns-in_err-table-2-clause-aside
returns-in_err-table-2-clause-aside g c =
    c.run_clause.ensures.aside ∙ c.loop-clause.invariant.aside

pub returns-clause-gives : goal.returns-clause-gives
returns-clause-gives g c =
    let before = state_of c.loop-clause.live.graph (seen c.loop-clause.table) c.loop-clause.meter.used in
    record {
      ok =
          sym c.loop-clause.invariant.left
          ∙ ap (λ xs. clauses_run (parameters_view c.args.query.now.parameters.now) (quota_of c.loop-clause.meter.limit c.args.query.now.max_elements) c.loop-clause.table.names (plan_view c.loop-clause.left.now) (map clause_view xs) before)
          (drop_all c.loop-clause.clause-index c.args.clauses.now c.loop-clause-test.false);
      err = tt;
    }

pub returns-clause-names : goal.returns-clause-names
returns-clause-names g c =
    sym (ap (λ xs. fold scope_after c.loop-clause.table.names (map clause_view xs)) (drop_all c.loop-clause.clause-index c.args.clauses.now c.loop-clause-test.false))
    ∙ c.loop-clause.invariant.names

pub returns-clause-limit : goal.returns-clause-limit
returns-clause-limit g c = c.loop-clause.invariant.limit

pub returns-clause-aside : goal.returns-clause-aside
returns-clause-aside g c = c.loop-clause.invariant.aside

pub returns-in_err-table-clause-gives : goal.returns-in_err-table-clause-gives
returns-in_err-table-clause-gives g c = gives_fault c.from_residual.result _ _ _ c.from_residual.ensures.1 (λ other. absurd (other refl))

pub returns-in_err-table-clause-limit : goal.returns-in_err-table-clause-limit
returns-in_err-table-clause-limit g c = refl

pub returns-in_err-table-clause-aside : goal.returns-in_err-table-clause-aside
returns-in_err-table-clause-aside g c = refl
