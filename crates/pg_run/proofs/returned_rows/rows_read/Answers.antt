use Rattle.std.proofs.Common.{◌≡◌, [], ◌∷◌, length, map, option_map, None, refl, sym, ap, ◌∙◌}
use Rattle.std.proofs.lemmas.List.{length-map}
use Rattle.std.proofs.lemmas.Slice.Zip.{AllZip-long}
use Rattle.std.specs.Prelude.{fold}
use Rattle.pg_match_stages.specs.View.{anchor_view}
use Rattle.pg_meaning.specs.Queries.{clauses_run}
use Rattle.pg_meaning.specs.Scopes.{scope_after}
use Rattle.pg_meaning.specs.Tree.{match_paths}
use Rattle.pg_project.proofs.Counting.{none_there}
use Rattle.pg_rows.specs.States.{seen, state_of}
use Rattle.pg_run.proofs.Leaving.{fault_before, last_anchors, last_matched, match_last, not_read_on, planned_before, planned_there, read_err, read_ok, read_on, whole_ok}
use Rattle.pg_run.specs.Runs.{anchors_view, plan_view, quota_of, setting_of}
use Rattle.pg_syntax_tree.specs.View.{clause_view, expression_view, path_view, projection_view}
use Rattle.pg_value_core.specs.Given.{parameters_view}
use Rattle.pg_run.proofs.returned_rows.rows_read.Goals as goal

pub run_clauses-requires : goal.run_clauses-requires
run_clauses-requires g c =
    let m = c.in-Some-Match-default in
    let clauses = last_matched c.args.clauses.now m.before.now m.field-0-0.now m.is_optional m.paths m.condition m.ensures.cases.0 m.field-0-0-is in
    let last = match_paths m.is_optional (map path_view m.paths.items) (option_map expression_view m.condition) in
    let plan = last_anchors c.args.plan.now c.in-Some.earlier.now c.in-Some.anchors.now c.in-Some.ensures.cases.0 in
    record { planned = planned_before (map clause_view m.before.now) last (plan_view c.in-Some.earlier.now) (anchors_view c.in-Some.anchors.now.items) (map clause_view c.args.clauses.now) (plan_view c.args.plan.now) clauses plan c.requires.planned }

pub returns-in_err-table-clause-err : goal.returns-in_err-table-clause-err
returns-in_err-table-clause-err g c =
    let m = c.in-Some-Match-default in
    let clauses = last_matched c.args.clauses.now m.before.now m.field-0-0.now m.is_optional m.paths m.condition m.ensures.cases.0 m.field-0-0-is in
    let last = match_paths m.is_optional (map path_view m.paths.items) (option_map expression_view m.condition) in
    let plan = last_anchors c.args.plan.now c.in-Some.earlier.now c.in-Some.anchors.now c.in-Some.ensures.cases.0 in
    fault_before (map clause_view m.before.now) last (plan_view c.in-Some.earlier.now) (anchors_view c.in-Some.anchors.now.items) (map clause_view c.args.clauses.now) (plan_view c.args.plan.now) clauses plan c.requires.planned
    (parameters_view c.args.query.now.parameters.now) (quota_of c.args.meter.now.limit c.args.query.now.max_elements) (state_of c.args.live.now.graph (record { names = []; rows = [] ∷ [] }) c.args.meter.now.used) c.from_residual.result _ c.from_residual.ensures.1 c.in_err-table.ensures.gives.err

pub match_read-requires : goal.match_read-requires
match_read-requires g c =
    let m = c.in-Some-Match-default in
    let clauses = last_matched c.args.clauses.now m.before.now m.field-0-0.now m.is_optional m.paths m.condition m.ensures.cases.0 m.field-0-0-is in
    let last = match_paths m.is_optional (map path_view m.paths.items) (option_map expression_view m.condition) in
    let plan = last_anchors c.args.plan.now c.in-Some.earlier.now c.in-Some.anchors.now c.in-Some.ensures.cases.0 in
    let planned = planned_there (map clause_view m.before.now) last (plan_view c.in-Some.earlier.now) (anchors_view c.in-Some.anchors.now.items) (map clause_view c.args.clauses.now) (plan_view c.args.plan.now) clauses plan c.requires.planned in
    ap length c.deref-2.ensures.value ∙ sym (length-map c.in-Some.anchors.now.items anchor_view) ∙ AllZip-long _ _ _ planned ∙ length-map m.paths.items path_view ∙ sym (ap length c.deref.ensures.value)

pub returns-clause-ok : goal.returns-clause-ok
returns-clause-ok g c =
    let m = c.in-Some-Match-default in
    let clauses = last_matched c.args.clauses.now m.before.now m.field-0-0.now m.is_optional m.paths m.condition m.ensures.cases.0 m.field-0-0-is in
    let last = match_paths m.is_optional (map path_view m.paths.items) (option_map expression_view m.condition) in
    let plan = last_anchors c.args.plan.now c.in-Some.earlier.now c.in-Some.anchors.now c.in-Some.ensures.cases.0 in
    let names = fold scope_after [] (map clause_view m.before.now) in
    let s = setting_of (parameters_view c.args.query.now.parameters.now) c.args.meter.now.limit c.args.query.now.max_elements names (anchors_view c.in-Some.anchors.now.items) in
    let after = c.run_clauses.new in
    let table = seen c.in_ok-table.table in
    let p = projection_view c.args.projection.now in
    let same =
    match_last (map clause_view m.before.now) last (plan_view c.in-Some.earlier.now) (anchors_view c.in-Some.anchors.now.items) (map clause_view c.args.clauses.now) (plan_view c.args.plan.now) clauses plan c.requires.planned
    (parameters_view c.args.query.now.parameters.now) (quota_of c.args.meter.now.limit c.args.query.now.max_elements) (state_of c.args.live.now.graph (record { names = []; rows = [] ∷ [] }) c.args.meter.now.used) (state_of after.live.graph table after.meter.used) c.in_ok-table.ensures.gives.ok in
    let at = sym (ap (map anchor_view) c.deref-2.ensures.value) in
    read_ok p (fold scope_after [] (map clause_view c.args.clauses.now)) _ _ same after.live.graph c.match_read.new.meter.used
    seen (none_there c.args.projection.now.star c.is_none.result c.is_none.ensures c.if-is_none.true) c.match_read.result
    (read_on seen p c.match_read.result s m.is_optional (option_map expression_view m.condition) c.deref.result.now m.paths.items c.graph.result after.live.graph table after.meter.used c.match_read.new.meter.used c.deref.ensures.value c.graph.ensures.is
    (c.match_read.ensures.ok s (record { parameters_are = refl; steps_are = sym c.run_clauses.ensures.limit; scope_is = sym c.in_ok-table.ensures.names }) at))

pub returns-clause-err : goal.returns-clause-err
returns-clause-err g c =
    let m = c.in-Some-Match-default in
    let clauses = last_matched c.args.clauses.now m.before.now m.field-0-0.now m.is_optional m.paths m.condition m.ensures.cases.0 m.field-0-0-is in
    let last = match_paths m.is_optional (map path_view m.paths.items) (option_map expression_view m.condition) in
    let plan = last_anchors c.args.plan.now c.in-Some.earlier.now c.in-Some.anchors.now c.in-Some.ensures.cases.0 in
    let names = fold scope_after [] (map clause_view m.before.now) in
    let s = setting_of (parameters_view c.args.query.now.parameters.now) c.args.meter.now.limit c.args.query.now.max_elements names (anchors_view c.in-Some.anchors.now.items) in
    let after = c.run_clauses.new in
    let table = seen c.in_ok-table.table in
    let p = projection_view c.args.projection.now in
    let same =
    match_last (map clause_view m.before.now) last (plan_view c.in-Some.earlier.now) (anchors_view c.in-Some.anchors.now.items) (map clause_view c.args.clauses.now) (plan_view c.args.plan.now) clauses plan c.requires.planned
    (parameters_view c.args.query.now.parameters.now) (quota_of c.args.meter.now.limit c.args.query.now.max_elements) (state_of c.args.live.now.graph (record { names = []; rows = [] ∷ [] }) c.args.meter.now.used) (state_of after.live.graph table after.meter.used) c.in_ok-table.ensures.gives.ok in
    let at = sym (ap (map anchor_view) c.deref-2.ensures.value) in
    read_err p (fold scope_after [] (map clause_view c.args.clauses.now)) _ _ same after.live.graph c.match_read.new.meter.used c.match_read.result
    (not_read_on seen p c.match_read.result s m.is_optional (option_map expression_view m.condition) c.deref.result.now m.paths.items c.graph.result after.live.graph table after.meter.used c.match_read.new.meter.used c.deref.ensures.value c.graph.ensures.is
    (c.match_read.ensures.err s (record { parameters_are = refl; steps_are = sym c.run_clauses.ensures.limit; scope_is = sym c.in_ok-table.ensures.names }) at))

pub returns-2-clause-ok : goal.returns-2-clause-ok
returns-2-clause-ok g c =
    let after = c.run_clauses-2.new in
    whole_ok (projection_view c.args.projection.now) (fold scope_after [] (map clause_view c.args.clauses.now))
    (clauses_run (parameters_view c.args.query.now.parameters.now) (quota_of c.args.meter.now.limit c.args.query.now.max_elements) [] (plan_view c.args.plan.now) (map clause_view c.args.clauses.now) (state_of c.args.live.now.graph (record { names = []; rows = [] ∷ [] }) c.args.meter.now.used))
    after.live.graph after.meter.used c.run_clauses-2.result c.run_clauses-2.ensures.gives c.run_clauses-2.ensures.names
