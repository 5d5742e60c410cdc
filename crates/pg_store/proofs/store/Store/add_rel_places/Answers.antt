use Rattle.std.proofs.Common.{◌≡◌, None, IsSome, option_copied, length, sym, ap, subst, ◌∙◌}
use Rattle.std.proofs.lemmas.Result.{on_ok_weaker}
use Rattle.std.specs.FinMap as map
use Rattle.std.specs.List.{AllByRecursion}
use Rattle.pg_graph.proofs.NamedChanges.{by_result}
use Rattle.pg_graph.specs.Records.{with_blanks}
use Rattle.pg_graph.specs.Refinement.{property_entries, relationship_of}
use Rattle.pg_graph.specs.declared.records.RelRecord.{RelRecord}
use Rattle.pg_store.proofs.BlankPlaces.{blanks_named, blanks_show_nothing}
use Rattle.pg_store.proofs.Changed.{rel_stays}
use Rattle.pg_store.proofs.States.{the_same}
use Rattle.pg_store.proofs.Stores.{copied_some, rel_held}
use Rattle.pg_store.proofs.store.Store.add_rel_places.Goals as goal
use Rattle.pg_store.specs.Journal.{live}
use Rattle.pg_store.specs.Stores.{state_of}

pub unwrap-rel-requires : goal.unwrap-rel-requires
unwrap-rel-requires g c =
    let store = c.args.self.now in
    copied_some c.rel.result (subst IsSome (sym c.rel.ensures) (rel_held c.args.shared.now.names (live (state_of g.T.Tables.seen store c.args.shared.now)) store.next.node store.next.rel c.args.id.0 c.requires.there))

pub change_rel-requires-clause-change : goal.change_rel-requires-clause-change
change_rel-requires-clause-change g c = λ r is.
    let same = the_same c.unwrap-rel.result.now r (sym c.rel.ensures ∙ ap option_copied c.unwrap-rel.ensures) is in
    (c.in_ok-places.ensures.rising, subst (λ (x : RelRecord). AllByRecursion (λ key. map.get x.properties key ≡ None) c.in_ok-places.places.items) same c.in_ok-places.ensures.absent)

pub change_rel-requires-clause-named : goal.change_rel-requires-clause-named
change_rel-requires-clause-named g c = λ r is.
    let names = c.args.shared.now.names in
    let well = c.requires.fit.well.holds in
    blanks_named names well.distinct c.in_ok-places.places.items r.properties (c.in_ok-places.ensures.bounded (length names) c.requires.named) (well.rels c.args.id.0 r is).keys

pub returns-clause-graph : goal.returns-clause-graph
returns-clause-graph g c =
    let store = c.args.self.now in
    let names = c.args.shared.now.names in
    let s = state_of g.T.Tables.seen store c.args.shared.now in
    let r = c.unwrap-rel.result.now in
    let keys = c.in_ok-places.places.items in
    let is = sym c.rel.ensures ∙ ap option_copied c.unwrap-rel.ensures in
    let well = c.requires.fit.well.holds in
    let held = well.rels c.args.id.0 r is in
    by_result c.change_rel.result
    (on_ok_weaker c.change_rel.result (λ made.
    made r is
    ∙ rel_stays names (live s) store.next.node store.next.rel c.args.id.0 r (λ e. record e { properties = property_entries names (with_blanks r.properties keys) }) is
    (λ t. record (relationship_of names r) { properties = blanks_show_nothing names well.distinct keys r.properties (c.in_ok-places.ensures.bounded (length names) c.requires.named) held.keys c.in_ok-places.ensures.absent t }))
    c.change_rel.ensures.ok)
    c.change_rel.ensures.err
