use Rattle.std.proofs.Common.{[], ◌∷◌, map, None, false, refl, sym, ap}
use Rattle.std.specs.Prelude.{fold}
use Rattle.pg_match_stages.specs.View.{anchor_view}
use Rattle.pg_meaning.specs.Queries.{clauses_run}
use Rattle.pg_meaning.specs.Scopes.{scope_after}
use Rattle.pg_meaning.specs.Tree.{match_paths}
use Rattle.pg_rows.specs.States.{seen, state_of}
use Rattle.pg_run.proofs.Leaving.{counted_err, counted_ok, fault_before, last_anchors, last_match, match_last, matched_on, planned_before}
use Rattle.pg_run.specs.Runs.{anchors_view, plan_view, quota_of, setting_of}
use Rattle.pg_syntax_tree.specs.View.{clause_view, path_view, projection_view}
use Rattle.pg_value_core.specs.Given.{parameters_view}
use Rattle.pg_run.proofs.returned_rows.rows_returned.Goals as goal

pub run_clauses-requires : goal.run_clauses-requires
run_clauses-requires g c =
    let m = c.in-Some-Match-false-default-None-default in
    let clauses = last_match c.args.clauses.now m.before.now m.field-0-0.now m.field-0-0-0 m.paths m.field-0-0-2 m.ensures.cases.0 m.field-0-0-is m.field-0-0-0-test m.field-0-0-2-is in
    let plan = last_anchors c.args.plan.now c.in-Some.earlier.now c.in-Some.anchors.now c.in-Some.ensures.cases.0 in
    record { planned = planned_before (map clause_view m.before.now) (match_paths false (map path_view m.paths.items) None) (plan_view c.in-Some.earlier.now) (anchors_view c.in-Some.anchors.now.items) (map clause_view c.args.clauses.now) (plan_view c.args.plan.now) clauses plan c.requires.planned }

pub returns-in_err-table-clause-err : goal.returns-in_err-table-clause-err
returns-in_err-table-clause-err g c =
    let m = c.in-Some-Match-false-default-None-default in
    let clauses = last_match c.args.clauses.now m.before.now m.field-0-0.now m.field-0-0-0 m.paths m.field-0-0-2 m.ensures.cases.0 m.field-0-0-is m.field-0-0-0-test m.field-0-0-2-is in
    let plan = last_anchors c.args.plan.now c.in-Some.earlier.now c.in-Some.anchors.now c.in-Some.ensures.cases.0 in
    fault_before (map clause_view m.before.now) (match_paths false (map path_view m.paths.items) None) (plan_view c.in-Some.earlier.now) (anchors_view c.in-Some.anchors.now.items) (map clause_view c.args.clauses.now) (plan_view c.args.plan.now) clauses plan c.requires.planned
    (parameters_view c.args.query.now.parameters.now) (quota_of c.args.meter.now.limit c.args.query.now.max_elements) (state_of c.args.live.now.graph (record { names = []; rows = [] ∷ [] }) c.args.meter.now.used) c.from_residual.result _ c.from_residual.ensures.1 c.in_err-table.ensures.gives.err

pub returns-clause-ok : goal.returns-clause-ok
returns-clause-ok g c =
    let m = c.in-Some-Match-false-default-None-default in
    let clauses = last_match c.args.clauses.now m.before.now m.field-0-0.now m.field-0-0-0 m.paths m.field-0-0-2 m.ensures.cases.0 m.field-0-0-is m.field-0-0-0-test m.field-0-0-2-is in
    let plan = last_anchors c.args.plan.now c.in-Some.earlier.now c.in-Some.anchors.now c.in-Some.ensures.cases.0 in
    let names = fold scope_after [] (map clause_view m.before.now) in
    let s = setting_of (parameters_view c.args.query.now.parameters.now) c.args.meter.now.limit c.args.query.now.max_elements names (anchors_view c.in-Some.anchors.now.items) in
    let after = c.run_clauses.new in
    let table = seen c.in_ok-table.table in
    let same =
    match_last (map clause_view m.before.now) (match_paths false (map path_view m.paths.items) None) (plan_view c.in-Some.earlier.now) (anchors_view c.in-Some.anchors.now.items) (map clause_view c.args.clauses.now) (plan_view c.args.plan.now) clauses plan c.requires.planned
    (parameters_view c.args.query.now.parameters.now) (quota_of c.args.meter.now.limit c.args.query.now.max_elements) (state_of c.args.live.now.graph (record { names = []; rows = [] ∷ [] }) c.args.meter.now.used) (state_of after.live.graph table after.meter.used) c.in_ok-table.ensures.gives.ok in
    let given =
    matched_on c.count_matches.result s c.deref.result.now m.paths.items c.graph.result after.live.graph table after.meter.used c.count_matches.new.meter.used c.deref.ensures.value c.graph.ensures.is
    (c.count_matches.ensures.gives s (record { parameters_are = refl; steps_are = sym c.run_clauses.ensures.limit; scope_is = sym c.in_ok-table.ensures.names }) (sym (ap (map anchor_view) c.deref-2.ensures.value))) in
    counted_ok (projection_view c.args.projection.now) (fold scope_after [] (map clause_view c.args.clauses.now)) _ after.live.graph c.count_matches.new.meter.used _ same c.count_matches.result (c.only_counts.ensures c.if-only_counts.true) given

pub returns-clause-err : goal.returns-clause-err
returns-clause-err g c =
    let m = c.in-Some-Match-false-default-None-default in
    let clauses = last_match c.args.clauses.now m.before.now m.field-0-0.now m.field-0-0-0 m.paths m.field-0-0-2 m.ensures.cases.0 m.field-0-0-is m.field-0-0-0-test m.field-0-0-2-is in
    let plan = last_anchors c.args.plan.now c.in-Some.earlier.now c.in-Some.anchors.now c.in-Some.ensures.cases.0 in
    let names = fold scope_after [] (map clause_view m.before.now) in
    let s = setting_of (parameters_view c.args.query.now.parameters.now) c.args.meter.now.limit c.args.query.now.max_elements names (anchors_view c.in-Some.anchors.now.items) in
    let after = c.run_clauses.new in
    let table = seen c.in_ok-table.table in
    let same =
    match_last (map clause_view m.before.now) (match_paths false (map path_view m.paths.items) None) (plan_view c.in-Some.earlier.now) (anchors_view c.in-Some.anchors.now.items) (map clause_view c.args.clauses.now) (plan_view c.args.plan.now) clauses plan c.requires.planned
    (parameters_view c.args.query.now.parameters.now) (quota_of c.args.meter.now.limit c.args.query.now.max_elements) (state_of c.args.live.now.graph (record { names = []; rows = [] ∷ [] }) c.args.meter.now.used) (state_of after.live.graph table after.meter.used) c.in_ok-table.ensures.gives.ok in
    let given =
    matched_on c.count_matches.result s c.deref.result.now m.paths.items c.graph.result after.live.graph table after.meter.used c.count_matches.new.meter.used c.deref.ensures.value c.graph.ensures.is
    (c.count_matches.ensures.gives s (record { parameters_are = refl; steps_are = sym c.run_clauses.ensures.limit; scope_is = sym c.in_ok-table.ensures.names }) (sym (ap (map anchor_view) c.deref-2.ensures.value))) in
    counted_err (projection_view c.args.projection.now) (fold scope_after [] (map clause_view c.args.clauses.now)) _ after.live.graph c.count_matches.new.meter.used _ same c.count_matches.result given
