use Rattle.std.proofs.Common.{IsSome, option_copied, sym, ap, subst, ◌∙◌}
use Rattle.std.proofs.lemmas.Result.{on_ok_weaker}
use Rattle.std.specs.FinMap as map
use Rattle.pg_graph.proofs.NamedChanges.{named_inserted, nothing_shown, property_put}
use Rattle.pg_graph.specs.Refinement.{label_texts, node_of, property_entries, text_of}
use Rattle.pg_meaning.specs.Entries.{set_key}
use Rattle.pg_meaning.specs.Graph.{Node}
use Rattle.pg_store.proofs.ChangeLemmas.{marks_stay}
use Rattle.pg_store.proofs.Changed.{node_changed_alike, node_stays}
use Rattle.pg_store.proofs.Kept.{nothing_touched}
use Rattle.pg_store.proofs.Stores.{copied_some, node_held}
use Rattle.pg_store.proofs.store.Store.set_node_key.Goals as goal
use Rattle.pg_store.specs.Journal.{live}
use Rattle.pg_store.specs.Stores.{state_of}
use Rattle.pg_value_core.specs.View.{view}

pub unwrap-node-requires : goal.unwrap-node-requires
unwrap-node-requires g c =
    let store = c.args.self.now in
    copied_some c.node.result (subst IsSome (sym c.node.ensures) (node_held c.args.shared.now.names (live (state_of g.T.Tables.seen store c.args.shared.now)) store.next.node store.next.rel c.args.id.0 c.requires.there))

pub returns-then-takes_nothing : goal.returns-then-takes_nothing
returns-then-takes_nothing g c =
    let store = c.args.self.now in
    let names = c.args.shared.now.names in
    let s = state_of g.T.Tables.seen store c.args.shared.now in
    let n = c.unwrap-node.result.now in
    let is = sym c.node.ensures ∙ ap option_copied c.unwrap-node.ensures in
    let well = c.requires.fit.well.holds in
    let held = well.nodes c.args.id.0 n is in
    let nothing = c.takes_nothing.ensures c.if-takes_nothing.true in
    record {
      ok = sym (node_stays names (live s) store.next.node store.next.rel c.args.id.0 n (λ e. record e { properties = set_key (text_of names c.args.key) (view c.args.value) e.properties }) is
          (λ t. record {
            labels = label_texts names n.labels;
            properties = (ap (λ v. set_key (text_of names c.args.key) v (property_entries names n.properties)) nothing.0 ∙ nothing_shown names well.distinct n.properties held.keys c.args.key c.requires.named nothing.1) t;
          }));
      marks = marks_stay g.T.Tables.seen store c.args.shared.now;
      fit = c.requires.fit;
      keeps = nothing_touched store c.args.shared.now c.requires.fit;
    }

pub change_node-requires : goal.change_node-requires
change_node-requires g c =
    let store = c.args.self.now in
    let names = c.args.shared.now.names in
    let s = state_of g.T.Tables.seen store c.args.shared.now in
    let well = c.requires.fit.well.holds in
    record {
      fit = c.requires.fit;
      there = node_held names (live s) store.next.node store.next.rel c.args.id.0 c.requires.there;
      change = λ n is. tt;
      named = λ n is.
          let held = well.nodes c.args.id.0 n is in
          record { labels = held.labels; keys = named_inserted names well.distinct n.properties held.keys c.args.key (view c.args.value) c.requires.named };
    }

pub returns-clause-ok : goal.returns-clause-ok
returns-clause-ok g c =
    let store = c.args.self.now in
    let names = c.args.shared.now.names in
    let s = state_of g.T.Tables.seen store c.args.shared.now in
    let n = c.unwrap-node.result.now in
    let is = sym c.node.ensures ∙ ap option_copied c.unwrap-node.ensures in
    let well = c.requires.fit.well.holds in
    let held = well.nodes c.args.id.0 n is in
    let new : Node = node_of names (record n { properties = map.insert n.properties c.args.key (view c.args.value) }) in
    on_ok_weaker c.change_node.result (λ made.
    made n is
    ∙ node_changed_alike names (live s) store.next.node store.next.rel c.args.id.0 n (λ _. new) (λ e. record e { properties = set_key (text_of names c.args.key) (view c.args.value) e.properties }) is
    (λ t. record { labels = label_texts names n.labels; properties = property_put names well.distinct n.properties held.keys c.args.key (view c.args.value) c.requires.named t }))
    c.change_node.ensures.ok
