use Rattle.std.proofs.Common.{◌≡◌, None, IsSome, option_copied, length, sym, ap, subst, ◌∙◌}
use Rattle.std.proofs.lemmas.Result.{on_ok_weaker}
use Rattle.std.specs.FinMap as map
use Rattle.std.specs.List.{AllByRecursion}
use Rattle.pg_graph.proofs.NamedChanges.{by_result}
use Rattle.pg_graph.specs.Records.{with_blanks}
use Rattle.pg_graph.specs.Refinement.{label_texts, node_of}
use Rattle.pg_graph.specs.declared.records.NodeRecord.{NodeRecord}
use Rattle.pg_store.proofs.BlankPlaces.{blanks_named, blanks_show_nothing}
use Rattle.pg_store.proofs.Changed.{node_stays}
use Rattle.pg_store.proofs.States.{the_same}
use Rattle.pg_store.proofs.Stores.{copied_some, node_held}
use Rattle.pg_store.proofs.store.Store.add_node_places.Goals as goal
use Rattle.pg_store.specs.Journal.{live}
use Rattle.pg_store.specs.Stores.{state_of}

pub unwrap-node-requires : goal.unwrap-node-requires
unwrap-node-requires g c =
    let store = c.args.self.now in
    copied_some c.node.result (subst IsSome (sym c.node.ensures) (node_held c.args.shared.now.names (live (state_of g.T.Tables.seen store c.args.shared.now)) store.next.node store.next.rel c.args.id.0 c.requires.there))

pub change_node-requires-clause-change : goal.change_node-requires-clause-change
change_node-requires-clause-change g c = λ n is.
    let same = the_same c.unwrap-node.result.now n (sym c.node.ensures ∙ ap option_copied c.unwrap-node.ensures) is in
    (c.in_ok-places.ensures.rising, subst (λ (x : NodeRecord). AllByRecursion (λ key. map.get x.properties key ≡ None) c.in_ok-places.places.items) same c.in_ok-places.ensures.absent)

pub change_node-requires-clause-named : goal.change_node-requires-clause-named
change_node-requires-clause-named g c = λ n is.
    let names = c.args.shared.now.names in
    let well = c.requires.fit.well.holds in
    let held = well.nodes c.args.id.0 n is in
    record { labels = held.labels; keys = blanks_named names well.distinct c.in_ok-places.places.items n.properties (c.in_ok-places.ensures.bounded (length names) c.requires.named) held.keys }

pub returns-clause-graph : goal.returns-clause-graph
returns-clause-graph g c =
    let store = c.args.self.now in
    let names = c.args.shared.now.names in
    let s = state_of g.T.Tables.seen store c.args.shared.now in
    let n = c.unwrap-node.result.now in
    let keys = c.in_ok-places.places.items in
    let is = sym c.node.ensures ∙ ap option_copied c.unwrap-node.ensures in
    let well = c.requires.fit.well.holds in
    let held = well.nodes c.args.id.0 n is in
    let new = node_of names (record n { properties = with_blanks n.properties keys }) in
    by_result c.change_node.result
    (on_ok_weaker c.change_node.result (λ made.
    made n is
    ∙ node_stays names (live s) store.next.node store.next.rel c.args.id.0 n (λ _. new) is
    (λ t. record { labels = label_texts names n.labels; properties = blanks_show_nothing names well.distinct keys n.properties (c.in_ok-places.ensures.bounded (length names) c.requires.named) held.keys c.in_ok-places.ensures.absent t }))
    c.change_node.ensures.ok)
    c.change_node.ensures.err
