use Rattle.std.proofs.Common.{string_bytes, ap, subst, ◌∙◌}
use Rattle.std.proofs.lemmas.Result.{on_err_weaker}
use Rattle.pg_live.specs.Live.{Aside}
use Rattle.pg_live.specs.Settled.{Settles}
use Rattle.pg_names.specs.Names.{KeepsNames}
use Rattle.pg_tenant.proofs.ServedLemmas.{no_refusal, plan_listed, plan_names, plan_shown, runs_plan}
use Rattle.pg_tenant.specs.Answers.{shown_if_fitting}
use Rattle.pg_tenant.specs.Outcomes.{plan_outcome}
use Rattle.pg_tenant.specs.Replies.{IsShown}
use Rattle.pg_tenant.specs.Settings.{may_write}
use Rattle.pg_tenant.specs.declared.tenant.Tenant.{Tenant}
use Rattle.pg_value_core.specs.Given.{parameters_view}
use Rattle.std.proofs.Common.{refl}
use Rattle.pg_tenant.proofs.tenant.Tenant.answer_plan.Given.{Over}
use Rattle.pg_tenant.proofs.tenant.Tenant.answer_plan.Goals as goal

module _ (g : Over) (c : goal.After-settled g) where
  abbrev now : Tenant
  now = record { settings = c.args.self.now.settings; indexes = c.args.self.now.indexes; pages = c.shown-reply.new.pages }

  settles : Settles c.args.live.now c.settled.new.live c.settled.result
  settles =
      let aside = c.run_query-reply.ensures.aside in
      let names = ap (λ (a : Aside). a.names) aside ∙ c.requires.begun.names in
      record {
        same = on_err_weaker c.settled.result (λ h. h ∙ ap (λ (a : Aside). a.begun) aside ∙ c.requires.begun.graph) c.settled.ensures.undone;
        same_names = on_err_weaker c.settled.result (λ h. h ∙ names) c.settled.ensures.names;
        kept = subst (λ ns. KeepsNames ns c.settled.new.live.names) names c.settled.ensures.grown;
        others = c.settled.ensures.others ∙ ap (λ (a : Aside). a.others) aside;
        place = c.settled.ensures.place ∙ ap (λ (a : Aside). a.place) aside;
        begins = c.settled.ensures.begins ∙ ap (λ (a : Aside). a.begins) aside;
        pairs = c.settled.ensures.pairs ∙ ap (λ (a : Aside). a.pairs) aside;
      }

  shown : IsShown c.settled.result
      (shown_if_fitting c.args.self.now.pages c.args.self.now.settings.max_held (string_bytes c.args.asked.token) c.args.asked.page
      (plan_outcome (may_write c.args.self.now.settings (string_bytes c.args.asked.token)) c.args.self.now.settings.max_steps c.args.self.now.settings.max_elements
      (parameters_view c.args.asked.parameters) c.args.live.now.graph c.args.plan.now)) c.settled.new.live.graph c.args.self.now.pages c.shown-reply.new.pages
  shown =
      plan_shown c.args.self.now now c.args.live.now c.settled.new.live refl refl (string_bytes c.args.asked.token) c.args.plan.now (parameters_view c.args.asked.parameters) c.args.asked.page
      c.may_write.result c.is_some.result c.max_steps.result c.max_elements.result c.max_held.result
      (c.may_write.ensures ∙ ap (may_write c.args.self.now.settings) c.as_str.ensures.value) c.is_some.ensures c.max_steps.ensures c.max_elements.ensures c.max_held.ensures
      c.test_early.result c.test_early.ensures c.in_ok-test_early.was c.run_query-reply.result c.with_headroom-reply.result _ _
      c.run_query-reply.ensures.answers c.with_headroom-reply.ensures.ok c.with_headroom-reply.ensures.err c.shown-reply.result c.shown-reply.ensures
      c.settled.result c.settled.ensures.reply c.settled.ensures.kept

pub returns-clause-answers : goal.returns-clause-answers
returns-clause-answers g c =
    runs_plan c.args.self.now (now g c) c.args.live.now c.settled.new.live refl refl (string_bytes c.args.asked.token) c.args.plan.now (parameters_view c.args.asked.parameters) c.args.asked.page
    c.settled.result (settles g c) (shown g c)

pub returns-clause-names : goal.returns-clause-names
returns-clause-names g c =
    plan_names c.args.self.now (now g c) c.args.live.now c.settled.new.live refl refl (string_bytes c.args.asked.token) c.args.plan.now (parameters_view c.args.asked.parameters) c.args.asked.page
    c.settled.result (settles g c) (shown g c)

pub returns-clause-listed : goal.returns-clause-listed
returns-clause-listed g c = plan_listed c.args.self.now (now g c) c.args.live.now c.settled.new.live c.settled.result refl (settles g c)

pub returns-clause-accepted : goal.returns-clause-accepted
returns-clause-accepted g c =
    no_refusal c.args.self.now (now g c) c.args.live.now c.settled.new.live refl refl (string_bytes c.args.asked.token) c.args.plan.now (parameters_view c.args.asked.parameters) c.args.asked.page
    c.settled.result (shown g c)
