use Rattle.std.proofs.Common.{◌≡◌, List, true, [], ◌++◌, ◌∷◌, length, map, take, sym, ap, subst, ◌∙◌}
use Rattle.std.proofs.lemmas.List.{length-map, length-take-le, map-append}
use Rattle.std.proofs.lemmas.Result.{err_from_is_err_and}
use Rattle.std.specs.Prelude.{fold}
use Rattle.pg_match.specs.Repeated.{with_counts}
use Rattle.pg_meaning.specs.Graph.{Graph}
use Rattle.pg_meaning.specs.Plans.{IsPlanFrom, Plan}
use Rattle.pg_meaning.specs.Queries.{clauses_run}
use Rattle.pg_meaning.specs.Scopes.{scope_after}
use Rattle.pg_meaning.specs.Tree.{return_rows}
use Rattle.pg_run.proofs.ReplyLemmas.{planned_slice, replies, replies_fault, slice_is, whole_reply, within_plan}
use Rattle.pg_run.specs.Returning.{Leaves}
use Rattle.pg_run.specs.Running.{Replies, ran}
use Rattle.pg_rows.specs.States.{seen, state_of}
use Rattle.pg_run.specs.Runs.{anchors_view, plan_view, quota_of}
use Rattle.pg_syntax_tree.specs.View.{clause_view, projection_view}
use Rattle.pg_syntax_tree.specs.declared.clauses.Clause.{Clause}
use Rattle.pg_syntax_tree.specs.declared.clauses.Projection.{Projection}
use Rattle.pg_value_core.specs.Given.{parameters_view}
use Rattle.pg_run.proofs.running.answer_clauses.Goals as goal

last_is : (all before : List Clause) (last : Clause) (p : Projection) → all ≡ before ++ last ∷ [] → last ≡ Clause.Return p → map clause_view all ≡ map clause_view before ++ return_rows (projection_view p) ∷ []
last_is all before last p split is =
    ap (map clause_view) (split ∙ ap (λ x. before ++ x ∷ []) is) ∙ map-append clause_view before (Clause.Return p ∷ [])

pub slice_bounds-anchors-end : goal.slice_bounds-anchors-end
slice_bounds-anchors-end g c =
    let before = c.in-Some-Return-default.before.now in
    let p = c.in-Some-Return-default.projection in
    let same = last_is c.args.planned.now.clauses.now before c.in-Some-Return-default.field-0-0.now p c.in-Some-Return-default.ensures.cases.0 c.in-Some-Return-default.field-0-0-is in
    let planned = subst (λ xs. IsPlanFrom [] xs (plan_view c.args.planned.now.anchors.now)) same c.requires.planned in
    sym (length-take-le (length before) c.args.planned.now.anchors.now
    (within_plan (λ anchors. anchors_view anchors.items) (map clause_view before) (return_rows (projection_view p)) c.args.planned.now.anchors.now planned (length before) (sym (length-map before clause_view))))

pub rows_returned-requires : goal.rows_returned-requires
rows_returned-requires g c =
    let before = c.in-Some-Return-default.before.now in
    let p = c.in-Some-Return-default.projection in
    let same = last_is c.args.planned.now.clauses.now before c.in-Some-Return-default.field-0-0.now p c.in-Some-Return-default.ensures.cases.0 c.in-Some-Return-default.field-0-0-is in
    let planned = subst (λ xs. IsPlanFrom [] xs (plan_view c.args.planned.now.anchors.now)) same c.requires.planned in
    record { planned = planned_slice (λ anchors. anchors_view anchors.items) (map clause_view before) (return_rows (projection_view p)) c.args.planned.now.anchors.now planned (length before) (sym (length-map before clause_view)) }

pub returns-in_err-table-in-Some-Return-default-clause-replies : goal.returns-in_err-table-in-Some-Return-default-clause-replies
returns-in_err-table-in-Some-Return-default-clause-replies g c =
    let before = c.in-Some-Return-default.before.now in
    let ps = parameters_view c.args.query.now.parameters.now in
    let limit = c.args.meter.now.limit in
    let elements = c.args.query.now.max_elements in
    let quota = quota_of limit elements in
    let cs = map clause_view before in
    let p = projection_view c.in-Some-Return-default.projection in
    let plan = plan_view c.args.planned.now.anchors.now in
    let start = c.args.live.now.graph in
    let used = c.args.meter.now.used in
    let begin = state_of start (record { names = []; rows = [] ∷ [] }) used in
    let same = last_is c.args.planned.now.clauses.now before c.in-Some-Return-default.field-0-0.now c.in-Some-Return-default.projection c.in-Some-Return-default.ensures.cases.0 c.in-Some-Return-default.field-0-0-is in
    let planned = subst (λ xs. IsPlanFrom [] xs plan) same c.requires.planned in
    let slice = slice_is (λ anchors. anchors_view anchors.items) cs (return_rows p) c.args.planned.now.anchors.now planned (length before) (sym (length-map before clause_view)) in
    let left = c.rows_returned.new.live.graph in
    let q = err_from_is_err_and c.from_residual-in_err-table-in-Some-Return-default.result c.from_residual-in_err-table-in-Some-Return-default.ensures.1 in
    rw (q.1, q.2)
    (whole_reply _ (ran ps limit elements start used plan) cs (map clause_view c.args.planned.now.clauses.now) c.args.planned.now.notes c.args.planned.now.returns p left same c.requires.returning
    (replies_fault ps quota c.args.planned.now.notes plan cs p begin c.in_err-table-in-Some-Return-default.field-0.0 left (λ other. sym (ap (λ (x : Plan). clauses_run ps quota [] x cs begin) slice) ∙ c.in_err-table-in-Some-Return-default.ensures.err other)))

pub returns-in_ok-table-in-Some-Return-default-clause-replies : goal.returns-in_ok-table-in-Some-Return-default-clause-replies
returns-in_ok-table-in-Some-Return-default-clause-replies g c =
    let before = c.in-Some-Return-default.before.now in
    let ps = parameters_view c.args.query.now.parameters.now in
    let limit = c.args.meter.now.limit in
    let elements = c.args.query.now.max_elements in
    let quota = quota_of limit elements in
    let cs = map clause_view before in
    let p = projection_view c.in-Some-Return-default.projection in
    let plan = plan_view c.args.planned.now.anchors.now in
    let start = c.args.live.now.graph in
    let used = c.args.meter.now.used in
    let begin = state_of start (record { names = []; rows = [] ∷ [] }) used in
    let same = last_is c.args.planned.now.clauses.now before c.in-Some-Return-default.field-0-0.now c.in-Some-Return-default.projection c.in-Some-Return-default.ensures.cases.0 c.in-Some-Return-default.field-0-0-is in
    let planned = subst (λ xs. IsPlanFrom [] xs plan) same c.requires.planned in
    let slice = slice_is (λ anchors. anchors_view anchors.items) cs (return_rows p) c.args.planned.now.anchors.now planned (length before) (sym (length-map before clause_view)) in
    let t = seen c.in_ok-table-in-Some-Return-default.table in
    let spent = c.rows_returned.new.meter.used in
    let left : Leaves (clauses_run ps quota [] (take (length cs) plan) cs begin) p (fold scope_after [] cs) c.graph.result t spent =
    subst (λ (x : Graph). Leaves (clauses_run ps quota [] (take (length cs) plan) cs begin) p (fold scope_after [] cs) x t spent) (sym c.graph.ensures.is)
    (subst (λ (x : Plan). Leaves (clauses_run ps quota [] x cs begin) p (fold scope_after [] cs) c.rows_returned.new.live.graph t spent) slice c.in_ok-table-in-Some-Return-default.ensures.ok) in
    whole_reply c.return_reply.result (ran ps limit elements start used plan) cs (map clause_view c.args.planned.now.clauses.now) c.args.planned.now.notes c.args.planned.now.returns p c.rows_returned.new.live.graph same c.requires.returning
    (subst (λ (x : Graph). Replies c.return_reply.result (clauses_run ps quota [] plan (cs ++ return_rows p ∷ []) begin) c.args.planned.now.notes true (fold scope_after [] (cs ++ return_rows p ∷ [])) x) c.graph.ensures.is
    (replies ps quota c.args.planned.now.notes plan cs p begin c.graph.result t spent left c.rows_returned.new.meter.limit c.return_reply.result (sym c.rows_returned.ensures.limit) c.return_reply.ensures))

pub rows_repeated-requires : goal.rows_repeated-requires
rows_repeated-requires g c =
    let before = c.in-Some-Return-default.before.now in
    let p = c.in-Some-Return-default.projection in
    let same = last_is c.args.planned.now.clauses.now before c.in-Some-Return-default.field-0-0.now p c.in-Some-Return-default.ensures.cases.0 c.in-Some-Return-default.field-0-0-is in
    let planned = subst (λ xs. IsPlanFrom [] xs (plan_view c.args.planned.now.anchors.now)) same c.requires.planned in
    record { planned = planned_slice (λ anchors. anchors_view anchors.items) (map clause_view before) (return_rows (projection_view p)) c.args.planned.now.anchors.now planned (length before) (sym (length-map before clause_view)) }

pub returns-in_err-rows-in-Some-Return-default-clause-replies : goal.returns-in_err-rows-in-Some-Return-default-clause-replies
returns-in_err-rows-in-Some-Return-default-clause-replies g c =
    let before = c.in-Some-Return-default.before.now in
    let ps = parameters_view c.args.query.now.parameters.now in
    let limit = c.args.meter.now.limit in
    let elements = c.args.query.now.max_elements in
    let quota = quota_of limit elements in
    let cs = map clause_view before in
    let p = projection_view c.in-Some-Return-default.projection in
    let plan = plan_view c.args.planned.now.anchors.now in
    let start = c.args.live.now.graph in
    let used = c.args.meter.now.used in
    let begin = state_of start (record { names = []; rows = [] ∷ [] }) used in
    let same = last_is c.args.planned.now.clauses.now before c.in-Some-Return-default.field-0-0.now c.in-Some-Return-default.projection c.in-Some-Return-default.ensures.cases.0 c.in-Some-Return-default.field-0-0-is in
    let planned = subst (λ xs. IsPlanFrom [] xs plan) same c.requires.planned in
    let slice = slice_is (λ anchors. anchors_view anchors.items) cs (return_rows p) c.args.planned.now.anchors.now planned (length before) (sym (length-map before clause_view)) in
    let left = c.rows_repeated.new.live.graph in
    let q = err_from_is_err_and c.from_residual.result c.from_residual.ensures.1 in
    rw (q.1, q.2)
    (whole_reply _ (ran ps limit elements start used plan) cs (map clause_view c.args.planned.now.clauses.now) c.args.planned.now.notes c.args.planned.now.returns p left same c.requires.returning
    (replies_fault ps quota c.args.planned.now.notes plan cs p begin c.in_err-rows-in-Some-Return-default.field-0.0 left (λ other. sym (ap (λ (x : Plan). clauses_run ps quota [] x cs begin) slice) ∙ c.in_err-rows-in-Some-Return-default.ensures.err other)))

pub returns-then-counts_repeated-clause-replies : goal.returns-then-counts_repeated-clause-replies
returns-then-counts_repeated-clause-replies g c =
    let before = c.in-Some-Return-default.before.now in
    let ps = parameters_view c.args.query.now.parameters.now in
    let limit = c.args.meter.now.limit in
    let elements = c.args.query.now.max_elements in
    let quota = quota_of limit elements in
    let cs = map clause_view before in
    let p = projection_view c.in-Some-Return-default.projection in
    let plan = plan_view c.args.planned.now.anchors.now in
    let start = c.args.live.now.graph in
    let used = c.args.meter.now.used in
    let begin = state_of start (record { names = []; rows = [] ∷ [] }) used in
    let same = last_is c.args.planned.now.clauses.now before c.in-Some-Return-default.field-0-0.now c.in-Some-Return-default.projection c.in-Some-Return-default.ensures.cases.0 c.in-Some-Return-default.field-0-0-is in
    let planned = subst (λ xs. IsPlanFrom [] xs plan) same c.requires.planned in
    let slice = slice_is (λ anchors. anchors_view anchors.items) cs (return_rows p) c.args.planned.now.anchors.now planned (length before) (sym (length-map before clause_view)) in
    let rows = c.in_ok-rows-in-Some-Return-default.rows in
    let t = with_counts (seen rows.0) rows.1.items in
    let spent = c.rows_repeated.new.meter.used in
    let left : Leaves (clauses_run ps quota [] (take (length cs) plan) cs begin) p (fold scope_after [] cs) c.graph-graph.result t spent =
    subst (λ (x : Graph). Leaves (clauses_run ps quota [] (take (length cs) plan) cs begin) p (fold scope_after [] cs) x t spent) (sym c.graph-graph.ensures.is)
    (subst (λ (x : Plan). Leaves (clauses_run ps quota [] x cs begin) p (fold scope_after [] cs) c.rows_repeated.new.live.graph t spent) slice c.in_ok-rows-in-Some-Return-default.ensures.ok) in
    whole_reply c.reply_of_repeated.result (ran ps limit elements start used plan) cs (map clause_view c.args.planned.now.clauses.now) c.args.planned.now.notes c.args.planned.now.returns p c.rows_repeated.new.live.graph same c.requires.returning
    (subst (λ (x : Graph). Replies c.reply_of_repeated.result (clauses_run ps quota [] plan (cs ++ return_rows p ∷ []) begin) c.args.planned.now.notes true (fold scope_after [] (cs ++ return_rows p ∷ [])) x) c.graph-graph.ensures.is
    (replies ps quota c.args.planned.now.notes plan cs p begin c.graph-graph.result t spent left c.rows_repeated.new.meter.limit c.reply_of_repeated.result (sym c.rows_repeated.ensures.limit) c.reply_of_repeated.ensures))
