use Rattle.std.proofs.Common.{◌≡◌, ℕ, List, [], Option, Some, length, sym, ap, subst, ◌∙◌, arith}
use Rattle.std.proofs.lemmas.Bool.Decides.{nat_tests}
use Rattle.std.proofs.lemmas.List.{nil_from_length}
use Rattle.std.specs.Option.{option_map_or}
use Rattle.pg_graph.specs.Refinement.{text_of}
use Rattle.pg_graph.specs.Removed.{Ids, has_id}
use Rattle.pg_meaning.specs.Graph.{Graph}
use Rattle.pg_names.proofs.Interned.{found_text}
use Rattle.pg_store.proofs.Listings.{found_named, id_sought, is_labelled}
use Rattle.pg_store.proofs.graph_view.GraphView.ids_labelled.Goals as goal
use Rattle.pg_store.specs.Covers.{with_label}
use Rattle.pg_store.specs.Listing.{IsLabelled}
use Rattle.pg_store.specs.Noted.{is_in}
use Rattle.pg_store.specs.declared.wanted.Wanted.TheVariants as wanted
use Rattle.pg_store.specs.Stores.{graph_of_store, state_of}

pub returns-then-seems_dense : goal.returns-then-seems_dense
returns-then-seems_dense g c =
    λ id is.
    let store = c.self.inside.store.now in
    let shared = c.self.inside.shared.now in
    let s = state_of g.T.Tables.seen store shared in
    let name = c.in_ok-find.field-0 in
    let label = c.args.label.now in
    let stale = store.sets.stale_ids.items in
    let none : length stale ≡ 0 = grind (arith, nat_tests, c.is_empty.ensures, c.if-not-is_empty.false) in
    let named = found_named label shared.names name (sym c.in_ok-find.ensures.found) in
    let there = ap (λ (ids : Ids). has_id ids id) (sym c.labelled-ids.ensures) ∙ is in
    let text : text_of shared.names name ≡ label = ap (λ (o : Option (List ℕ)). option_map_or (λ t. t) o []) (found_text label shared.names name (sym c.in_ok-find.ensures.found)) in
    subst (λ (graph : Graph). IsLabelled graph (Some label) id) c.self.view_is
    (subst (λ (t : List ℕ). IsLabelled (graph_of_store g.T.Tables.seen store shared) (Some t) id) text
    (is_labelled shared.names s c.self.invariant.well (wanted.Labelled name) named id
    (id_sought (is_in store.sets) stale store.journal.items s (nil_from_length stale none) c.self.invariant.noted (with_label name) id there)))
