use Rattle.std.proofs.Common.{String, Global, Vec, ap, ◌∙◌}
use Rattle.pg_meaning.specs.Graph.{Graph, element_count}
use Rattle.pg_plan.specs.Catalogue.{catalogue_view}
use Rattle.pg_tenant.proofs.StatusLemmas.{status_is}
use Rattle.pg_tenant.specs.TenantStates.{state_over}
use Rattle.pg_tenant.proofs.tenant.Tenant.status_of.Goals as goal

pub returns : goal.returns
returns g c =
    let graph = c.graph-graph.ensures.is in
    status_is (state_over c.args.self.now c.args.live.now) _ (c.elements.ensures ∙ ap element_count graph)
    (c.in_ok-indexes.ensures ∙ ap (λ (v : Vec (String Global × String Global) Global). catalogue_view v.items) (c.list.ensures ∙ c.deref.ensures)) (c.most.ensures.is ∙ c.max_elements.ensures) c.max_steps.ensures
    (c.next_ids-next.ensures.node ∙ ap (λ (x : Graph). x.next_node) graph) (c.next_ids-next.ensures.relationship ∙ ap (λ (x : Graph). x.next_relationship) graph)
