use Rattle.std.proofs.Common.{filter, sym, ap, ◌∙◌}
use Rattle.pg_meaning.specs.Graph.{Graph}
use Rattle.pg_meaning.specs.Walks.{with_value as with_value_in}
use Rattle.pg_store.proofs.Covering.{valued_read}
use Rattle.pg_store.proofs.ValuedLemmas.{valued_listed, no_label_valued, no_key_valued}
use Rattle.pg_store.proofs.graph_view.GraphView.nodes_valued.Goals as goal
use Rattle.pg_store.specs.Covers.{with_value, belongs, has_in, passes}
use Rattle.pg_store.specs.Journal.{live}
use Rattle.pg_store.specs.Stores.{state_of}
use Rattle.pg_value_core.specs.View.{view}

pub returns-clause-ids : goal.returns-clause-ids
returns-clause-ids g c =
    let store = c.self.inside.store.now in
    let s = state_of g.T.Tables.seen store c.self.inside.shared.now in
    let label = c.in-Some.label in
    let key = c.in-Some-find.key in
    ap (filter (passes (belongs (with_value label key c.args.value.now)) (live s).nodes)) c.ids.ensures
    ∙ valued_read (has_in store.sets) store.journal.items s c.self.invariant.covered label key c.args.value.now c.valued.result.now c.valued.ensures
    ∙ sym (valued_listed c.self.inside.shared.now.names (live s) store.next.node store.next.rel c.args.label.now c.args.key.now c.args.value.now label key c.self.invariant.well.holds (sym c.in-Some.ensures.found) (sym c.in-Some-find.ensures.found))
    ∙ ap (λ (graph : Graph). with_value_in graph c.args.label.now c.args.key.now (view c.args.value.now)) c.self.view_is

pub returns-in_default-find-clause-ids : goal.returns-in_default-find-clause-ids
returns-in_default-find-clause-ids g c =
    let store = c.self.inside.store.now in
    let s = state_of g.T.Tables.seen store c.self.inside.shared.now in
    c.no_nodes-in_default-find.ensures.ids
    ∙ sym (no_key_valued c.self.inside.shared.now.names (live s) store.next.node store.next.rel c.args.label.now c.args.key.now c.args.value.now c.self.invariant.well.holds (sym c.in_default-find.ensures.found))
    ∙ ap (λ (graph : Graph). with_value_in graph c.args.label.now c.args.key.now (view c.args.value.now)) c.self.view_is

pub returns-in_default-clause-ids : goal.returns-in_default-clause-ids
returns-in_default-clause-ids g c =
    let store = c.self.inside.store.now in
    let s = state_of g.T.Tables.seen store c.self.inside.shared.now in
    c.no_nodes.ensures.ids
    ∙ sym (no_label_valued c.self.inside.shared.now.names (live s) store.next.node store.next.rel c.args.label.now c.args.key.now c.args.value.now c.self.invariant.well.holds (sym c.in_default.ensures.found))
    ∙ ap (λ (graph : Graph). with_value_in graph c.args.label.now c.args.key.now (view c.args.value.now)) c.self.view_is
