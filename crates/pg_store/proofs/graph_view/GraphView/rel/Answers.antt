use Rattle.std.proofs.Common.{◌≡◌, true, sym, ap, subst, ◌∙◌}
use Rattle.std.specs.Option.{option_map}
use Rattle.pg_graph.proofs.Refined.{relationship_is_read}
use Rattle.pg_graph.specs.Refinement.{relationship_of}
use Rattle.pg_meaning.specs.Graph.{Graph, has_node, relationship_at}
use Rattle.pg_store.proofs.Stores.{end_is_there}
use Rattle.pg_store.proofs.graph_view.GraphView.rel.Goals as goal
use Rattle.pg_store.specs.Journal.{live}
use Rattle.pg_store.specs.Stores.{state_of}

pub invariant_of-result : goal.invariant_of-result
invariant_of-result g c =
    let rel = c.self.invariant.well.holds.rels c.args.id.0 c.in-Some.rel.now (sym c.in-Some.ensures) in
    record { kind = rel.kind; keys = rel.keys }

pub returns-in-Some-clause-is : goal.returns-in-Some-clause-is
returns-in-Some-clause-is g c =
    let store = c.self.inside.store.now in
    let content = live (state_of g.T.Tables.seen store c.self.inside.shared.now) in
    sym (relationship_is_read c.self.inside.shared.now.names content store.next.node store.next.rel c.args.id.0 ∙ ap (option_map (relationship_of c.self.inside.shared.now.names)) (sym c.in-Some.ensures)) ∙ ap (λ (graph : Graph). relationship_at graph c.args.id.0) c.self.view_is

pub returns-in-Some-clause-source : goal.returns-in-Some-clause-source
returns-in-Some-clause-source g c =
    let store = c.self.inside.store.now in
    let rel = c.in-Some.rel.now in
    subst (λ (graph : Graph). has_node graph rel.source.0 ≡ true) c.self.view_is
    (end_is_there c.self.inside.shared.now.names (live (state_of g.T.Tables.seen store c.self.inside.shared.now)) store.next.node store.next.rel rel.source.0
    (c.self.invariant.well.holds.rels c.args.id.0 rel (sym c.in-Some.ensures)).source)

pub returns-in-Some-clause-target : goal.returns-in-Some-clause-target
returns-in-Some-clause-target g c =
    let store = c.self.inside.store.now in
    let rel = c.in-Some.rel.now in
    subst (λ (graph : Graph). has_node graph rel.target.0 ≡ true) c.self.view_is
    (end_is_there c.self.inside.shared.now.names (live (state_of g.T.Tables.seen store c.self.inside.shared.now)) store.next.node store.next.rel rel.target.0
    (c.self.invariant.well.holds.rels c.args.id.0 rel (sym c.in-Some.ensures)).target)

pub returns-in-None-clause-is : goal.returns-in-None-clause-is
returns-in-None-clause-is g c =
    let store = c.self.inside.store.now in
    let content = live (state_of g.T.Tables.seen store c.self.inside.shared.now) in
    sym (relationship_is_read c.self.inside.shared.now.names content store.next.node store.next.rel c.args.id.0 ∙ ap (option_map (relationship_of c.self.inside.shared.now.names)) (sym c.in-None.ensures)) ∙ ap (λ (graph : Graph). relationship_at graph c.args.id.0) c.self.view_is
