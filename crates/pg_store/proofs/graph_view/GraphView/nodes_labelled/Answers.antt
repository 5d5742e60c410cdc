use Rattle.std.proofs.Common.{◌≡◌, filter, length, sym, ap, subst, ◌∙◌, arith}
use Rattle.std.proofs.lemmas.Bool.Decides.{nat_tests}
use Rattle.std.proofs.lemmas.List.{nil_from_length}
use Rattle.pg_graph.proofs.Made.{with_label_listed, with_no_label_listed}
use Rattle.pg_graph.specs.Removed.{Ids, has_id}
use Rattle.pg_meaning.specs.Graph.{Graph, nodes_with_label}
use Rattle.pg_store.proofs.Covering.{all_read}
use Rattle.pg_store.proofs.Listings.{each_sought, found_named}
use Rattle.pg_store.proofs.graph_view.GraphView.nodes_labelled.Goals as goal
use Rattle.pg_store.specs.Covers.{with_label, belongs, has_in, passes}
use Rattle.pg_store.specs.Journal.{live}
use Rattle.pg_store.specs.Listing.{AreSought}
use Rattle.pg_store.specs.Noted.{is_in}
use Rattle.pg_store.specs.declared.wanted.Wanted.TheVariants as wanted
use Rattle.pg_store.specs.Stores.{state_of}

pub returns-clause-ids : goal.returns-clause-ids
returns-clause-ids g c =
    let store = c.self.inside.store.now in
    let s = state_of g.T.Tables.seen store c.self.inside.shared.now in
    ap (filter (passes (belongs (with_label c.in-Some.name)) (live s).nodes)) c.ids.ensures
    ∙ all_read (has_in store.sets) store.journal.items s c.self.invariant.covered (with_label c.in-Some.name) c.labelled.result.now (λ i h. ap (λ (ids : Ids). has_id ids i) c.labelled.ensures ∙ h)
    ∙ sym (with_label_listed c.self.inside.shared.now.names (live s) store.next.node store.next.rel c.args.label.now c.in-Some.name c.self.invariant.well.holds (sym c.in-Some.ensures.found))
    ∙ ap (λ (graph : Graph). nodes_with_label graph c.args.label.now) c.self.view_is

pub returns-in_default-clause-ids : goal.returns-in_default-clause-ids
returns-in_default-clause-ids g c =
    let store = c.self.inside.store.now in
    let s = state_of g.T.Tables.seen store c.self.inside.shared.now in
    c.no_nodes.ensures.ids
    ∙ sym (with_no_label_listed c.self.inside.shared.now.names (live s) store.next.node store.next.rel c.args.label.now c.self.invariant.well.holds (sym c.in_default.ensures.found))
    ∙ ap (λ (graph : Graph). nodes_with_label graph c.args.label.now) c.self.view_is

pub invariant_of-result : goal.invariant_of-result
invariant_of-result g c =
    let store = c.self.inside.store.now in
    let shared = c.self.inside.shared.now in
    let name = c.in-Some.name in
    let stale = store.sets.stale_ids.items in (
      record { fit = c.self.invariant; named = found_named c.args.label.now shared.names name (sym c.in-Some.ensures.found) },
      λ empty.
          let none : length stale ≡ 0 = grind (arith, nat_tests, c.is_empty.ensures, empty) in
          subst (AreSought g.T.Tables.seen store shared (wanted.Labelled name)) (sym c.ids.ensures)
          (each_sought (is_in store.sets) stale store.journal.items (state_of g.T.Tables.seen store shared) (nil_from_length stale none) c.self.invariant.noted (with_label name) c.labelled.result.now (λ i h. ap (λ (ids : Ids). has_id ids i) (sym c.labelled.ensures) ∙ h)),
    )
