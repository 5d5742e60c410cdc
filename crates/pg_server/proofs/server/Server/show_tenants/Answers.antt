use Rattle.std.proofs.Common.{[], ap, sym, subst, ◌∙◌}
use Rattle.pg_live.specs.Live.{graphs_of}
use Rattle.pg_meaning.specs.Graph.{IsGraph}
use Rattle.pg_server.specs.Settings.{all_tokens}
use Rattle.pg_server.specs.State.{ServerState, settings_of, state_at}
use Rattle.pg_server.proofs.HoldLemmas.{state_seen}
use Rattle.pg_server.proofs.TenantLemmas.{graphs_are, settings_seen}
use Rattle.pg_server.proofs.server.Server.show_tenants.Goals as goal
use Rattle.pg_value.specs.Texts.{has_duplicate}

pub returns-clause-graphs : goal.returns-clause-graphs
returns-clause-graphs g c t =
    subst (λ (s : ServerState). IsGraph (state_at s t).graph) (ap state_seen c.self.view_is)
    (graphs_are c.self.inside.tenants.items (graphs_of c.self.inside.graphs) c.self.inside.graphs.aside.begins c.shared.ensures.sound t)

pub returns-clause-distinct : goal.returns-clause-distinct
returns-clause-distinct g c =
    ap (λ (s : ServerState). has_duplicate [] (all_tokens (settings_of s))) (sym (ap state_seen c.self.view_is))
    ∙ ap (λ ss. has_duplicate [] (all_tokens ss)) (settings_seen c.self.inside.tenants.items (graphs_of c.self.inside.graphs) c.self.inside.graphs.aside.begins) ∙ c.self.invariant.distinct
