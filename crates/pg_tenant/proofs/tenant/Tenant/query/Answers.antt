use Rattle.std.proofs.Common.{◌≡◌, ◌≤◌, Ok, length, rules, string_bytes, sym, subst, ◌∙◌}
use Rattle.pg_json.specs.Requests.{query}
use Rattle.pg_plan.specs.Plans.{IsPlanOfText}
use Rattle.pg_plan.specs.Reading.{greatest_text}
use Rattle.pg_tenant.proofs.ServedLemmas.{serves_plan}
use Rattle.pg_tenant.specs.Indexes.{indexes_of}
use Rattle.pg_tenant.specs.Solo.{page_tested}
use Rattle.pg_tenant.specs.Step.{Serves}
use Rattle.pg_tenant.specs.TenantStates.{state_over}
use Rattle.pg_value_core.specs.Given.{parameters_view}
use Rattle.pg_tenant.proofs.tenant.Tenant.query.Goals as goal

pub returns-clause-serves : goal.returns-clause-serves
returns-clause-serves g c =
    let text = string_bytes c.args.text in
    let tested : page_tested (state_over c.args.self.now c.args.live.now) c.args.asked.page ≡ Ok tt = sym c.test_page.ensures ∙ c.in_ok-test_page.was in
    let short : length text ≤ greatest_text = search rules in
    let lent : c.deref-2.result.now ≡ c.in_ok-plan.plan.value = search rules in
    let planned : IsPlanOfText text (indexes_of c.args.self.now.indexes) c.in_ok-plan.plan.value = search rules in
    subst (Serves c.args.self.now c.answer_plan.new.self c.args.live.now c.answer_plan.new.live (query (string_bytes c.args.asked.token) text (parameters_view c.args.asked.parameters) c.args.asked.page))
    (sym c.with_note.ensures.reply)
    (serves_plan c.args.self.now c.answer_plan.new.self c.args.live.now c.answer_plan.new.live (string_bytes c.args.asked.token) text (parameters_view c.args.asked.parameters) c.args.asked.page
    c.deref-2.result.now c.answer_plan.result tested short (subst (IsPlanOfText text (indexes_of c.args.self.now.indexes)) (sym lent) planned) c.answer_plan.ensures.answers c.answer_plan.ensures.names
    c.answer_plan.ensures.others c.answer_plan.ensures.listed c.answer_plan.ensures.settings c.answer_plan.ensures.accepted)
