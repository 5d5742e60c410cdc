use Rattle.std.proofs.Common.{◌≡◌, cond, [], map, sym, ap, ◌∙◌}
use Rattle.std.specs.Prelude.{fold}
use Rattle.pg_meaning.specs.Answer.{◌>>=◌}
use Rattle.pg_meaning.specs.Queries.{returns}
use Rattle.pg_meaning.specs.Scopes.{columns, scope_after}
use Rattle.pg_meaning.specs.Tree.{Query}
use Rattle.pg_plan.specs.Anchors.{plan_view}
use Rattle.pg_plan.specs.Plans.{plan_anchors, plan_query}
use Rattle.pg_syntax_tree.specs.View.{clause_view}
use Rattle.pg_tenant.proofs.FinishedLemmas.{planned, answer_run, output, run}
use Rattle.pg_tenant.proofs.RepliedLemmas.{is_answer}
use Rattle.pg_value_core.specs.Given.{parameters_view}
use Rattle.pg_tenant.proofs.query.run_query.Goals as goal

pub answer_clauses-requires-clause-planned : goal.answer_clauses-requires-clause-planned
answer_clauses-requires-clause-planned g c =
    let clauses_are = ap (map clause_view) c.as_slice.ensures.value ∙ ap (λ (q : Query). q.clauses) c.query.ensures in
    let plan_is = ap plan_view c.as_slice-2.ensures.value ∙ c.anchors.ensures.anchors in
    planned (plan_anchors c.args.plan.now) (plan_query c.args.plan.now) (parameters_view c.args.query.now.parameters.now) c.args.live.now.graph c.args.max_steps c.args.query.now.max_elements
    _ _ c.new-meter.result clauses_are plan_is c.new-meter.ensures c.anchors.ensures.begins

pub answer_clauses-requires-clause-returning : goal.answer_clauses-requires-clause-returning
answer_clauses-requires-clause-returning g c =
    let clauses_are = ap (map clause_view) c.as_slice.ensures.value ∙ ap (λ (q : Query). q.clauses) c.query.ensures in
    c.returns.ensures.returns ∙ ap returns (sym clauses_are)

pub returns-clause-answers : goal.returns-clause-answers
returns-clause-answers g c =
    let q = plan_query c.args.plan.now in
    let ps = parameters_view c.args.query.now.parameters.now in
    let clauses = map clause_view c.as_slice.result.now in
    let clauses_are = ap (map clause_view) c.as_slice.ensures.value ∙ ap (λ (q : Query). q.clauses) c.query.ensures in
    let plan_is = ap plan_view c.as_slice-2.ensures.value ∙ c.anchors.ensures.anchors in
    let before = c.args.live.now.graph in
    let after = c.answer_clauses.new.live.graph in
    let told = c.returns.ensures.returns in
    let names : columns q ≡ cond c.returns.result (fold scope_after [] clauses) [] =
    c.returns.ensures.last ∙ (λ i. cond (sym told i) (fold scope_after [] (sym clauses_are i)) []) in
    let whole = answer_run (plan_anchors c.args.plan.now) q ps before c.args.max_steps c.args.query.now.max_elements _ _ c.new-meter.result clauses_are plan_is c.new-meter.ensures in
    is_answer c.args.notes c.returns.result (columns q) (fold scope_after [] clauses) names _ c.answer_clauses.result after _
    (whole
    ∙ (λ i. run (plan_anchors c.args.plan.now) q ps before c.args.max_steps c.args.query.now.max_elements (plan_view c.as_slice-2.result.now) clauses c.new-meter.result >>= output (sym told i) (columns q)))
    c.answer_clauses.ensures.replies.gives c.answer_clauses.ensures.replies.graph
