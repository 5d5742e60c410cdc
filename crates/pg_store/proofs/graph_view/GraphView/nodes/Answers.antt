use Rattle.std.proofs.Common.{◌≡◌, filter, length, sym, ap, subst, ◌∙◌, arith}
use Rattle.std.proofs.lemmas.Bool.Decides.{nat_tests}
use Rattle.std.proofs.lemmas.List.{nil_from_length}
use Rattle.pg_graph.proofs.Made.{all_listed}
use Rattle.pg_meaning.specs.Graph.{Graph, ids_of}
use Rattle.pg_store.proofs.Covering.{all_read}
use Rattle.pg_store.proofs.Listings.{each_sought}
use Rattle.pg_store.proofs.graph_view.GraphView.nodes.Goals as goal
use Rattle.pg_store.specs.Covers.{every, belongs, has_in, passes}
use Rattle.pg_store.specs.Journal.{live}
use Rattle.pg_store.specs.Listing.{AreSought}
use Rattle.pg_store.specs.Noted.{is_in}
use Rattle.pg_store.specs.declared.wanted.Wanted.TheVariants as wanted
use Rattle.pg_store.specs.Stores.{state_of}

pub returns-clause-ids : goal.returns-clause-ids
returns-clause-ids g c =
    let store = c.self.inside.store.now in
    let s = state_of g.T.Tables.seen store c.self.inside.shared.now in
    ap (filter (passes (belongs every) (live s).nodes)) c.ids.ensures
    ∙ all_read (has_in store.sets) store.journal.items s c.self.invariant.covered every store.sets.all (λ i h. h)
    ∙ sym (all_listed c.self.inside.shared.now.names (live s) store.next.node store.next.rel)
    ∙ ap (λ (graph : Graph). ids_of graph.nodes) c.self.view_is

pub invariant_of-result : goal.invariant_of-result
invariant_of-result g c =
    let store = c.self.inside.store.now in
    let shared = c.self.inside.shared.now in
    let stale = store.sets.stale_ids.items in (
      record { fit = c.self.invariant; named = tt },
      λ empty.
          let none : length stale ≡ 0 = grind (arith, nat_tests, c.is_empty.ensures, empty) in
          subst (AreSought g.T.Tables.seen store shared wanted.All) (sym c.ids.ensures)
          (each_sought (is_in store.sets) stale store.journal.items (state_of g.T.Tables.seen store shared) (nil_from_length stale none) c.self.invariant.noted every store.sets.all (λ i h. h)),
    )
