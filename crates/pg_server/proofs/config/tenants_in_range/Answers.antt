use Rattle.std.proofs.Common.{◌≡◌, ◌≢◌, None, ap, sym, ◌∙◌}
use Rattle.std.proofs.lemmas.List.{nil_from_length}
use Rattle.std.proofs.lemmas.Result.{IfOk-from_err}
use Rattle.std.specs.Vec.Iter.{into_iter_items}
use Rattle.pg_server.specs.Configuration.{tenant_in_range, tenants_in_range}
use Rattle.pg_server.specs.declared.config_fault.ConfigFault.TheVariants.{OutOfRange, Memory}
use Rattle.pg_server.proofs.FoundLemmas.{behind, none_found_yet, one_more_found, none_of_all, all_found, fault_passed, memory_passed}
use Rattle.pg_server.proofs.config.tenants_in_range.Goals as goal

pub loop-draft-init : goal.loop-draft-init
loop-draft-init c =
    none_found_yet (tenants_in_range c.args.drafts.items)
    ∙ sym (ap (λ ts. behind ts (tenants_in_range c.args.drafts.items)) c.new-tenants.ensures.items)
    ∙ sym (ap (λ ds. behind c.new-tenants.result.items (tenants_in_range ds)) c.into_iter-draft-iterator.ensures.into_iter_gives.0)

pub returns-in_err-tenant_in_range-clause-ok : goal.returns-in_err-tenant_in_range-clause-ok
returns-in_err-tenant_in_range-clause-ok c = IfOk-from_err c.from_residual.result _ c.from_residual.ensures.0

pub returns-in_err-tenant_in_range-clause-kind : goal.returns-in_err-tenant_in_range-clause-kind
returns-in_err-tenant_in_range-clause-kind c =
    fault_passed (λ e. e ≢ Memory → e ≡ OutOfRange) c.in_err-tenant_in_range.field-0.0 c.from_residual.result c.from_residual.ensures.1 (λ _. c.in_err-tenant_in_range.ensures.err.0)

pub returns-in_err-tenant_in_range-clause-refused : goal.returns-in_err-tenant_in_range-clause-refused
returns-in_err-tenant_in_range-clause-refused c =
    let l = c.loop-draft in
    let none =
    none_of_all l.tenants.items (tenant_in_range c.in-Some.draft) (tenants_in_range (into_iter_items c.next.new.self)) (tenants_in_range c.args.drafts.items) c.in_err-tenant_in_range.ensures.err.1
    (l.invariant ∙ ap (λ ds. behind l.tenants.items (tenants_in_range ds)) c.in-Some.ensures.steps.0) in
    fault_passed (λ e. e ≢ Memory → tenants_in_range c.args.drafts.items ≡ None) c.in_err-tenant_in_range.field-0.0 c.from_residual.result c.from_residual.ensures.1 (λ _. none)

pub loop-draft-preserved : goal.loop-draft-preserved
loop-draft-preserved c =
    let l = c.loop-draft in
    one_more_found l.tenants.items c.push.new.self.items c.in_ok-tenant_in_range.field-0 (tenant_in_range c.in-Some.draft) (tenants_in_range (into_iter_items c.next.new.self)) (tenants_in_range c.args.drafts.items)
    c.in_ok-tenant_in_range.ensures.ok c.in_ok-push.ensures.items (l.invariant ∙ ap (λ ds. behind l.tenants.items (tenants_in_range ds)) c.in-Some.ensures.steps.0)

pub returns-in_err-push-clause-ok : goal.returns-in_err-push-clause-ok
returns-in_err-push-clause-ok c = IfOk-from_err c.from_residual-in_err-push.result _ c.from_residual-in_err-push.ensures.0

pub returns-in_err-push-clause-kind : goal.returns-in_err-push-clause-kind
returns-in_err-push-clause-kind c = memory_passed (λ e. e ≡ OutOfRange) c.from_residual-in_err-push.result c.from_residual-in_err-push.ensures.1

pub returns-in_err-push-clause-refused : goal.returns-in_err-push-clause-refused
returns-in_err-push-clause-refused c = memory_passed (λ e. tenants_in_range c.args.drafts.items ≡ None) c.from_residual-in_err-push.result c.from_residual-in_err-push.ensures.1

pub returns-clause-ok : goal.returns-clause-ok
returns-clause-ok c =
    let l = c.loop-draft in
    let none = nil_from_length (into_iter_items l.draft-iterator) (sym l.draft-iterator.rest.ok.0 ∙ c.in-None.ensures.steps.0) in
    all_found l.tenants.items (tenants_in_range (into_iter_items l.draft-iterator)) (tenants_in_range c.args.drafts.items) (ap tenants_in_range none) l.invariant
