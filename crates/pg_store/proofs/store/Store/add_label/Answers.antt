use Rattle.std.proofs.Common.{◌≡◌, ◌==◌, ℕ, false, ◌∷◌, [], IsSome, Some, option_copied, sym, ap, subst, ◌∙◌}
use Rattle.std.proofs.lemmas.Result.{on_ok_weaker}
use Rattle.std.specs.FinMap as map
use Rattle.std.specs.List.{list_any}
use Rattle.pg_graph.proofs.NamedChanges.{label_put, label_there, named_put}
use Rattle.pg_graph.specs.Content.{Content}
use Rattle.pg_graph.specs.Records.{with_label}
use Rattle.pg_graph.specs.Refinement.{node_of, property_entries, text_of}
use Rattle.pg_graph.specs.declared.records.NodeRecord.{NodeRecord}
use Rattle.pg_meaning.specs.Graph.{Node}
use Rattle.pg_meaning.specs.Names.{put_texts}
use Rattle.pg_store.proofs.ChangeLemmas.{marks_stay}
use Rattle.pg_store.proofs.Changed.{node_changed_alike, node_stays}
use Rattle.pg_store.proofs.Kept.{nothing_touched}
use Rattle.pg_store.proofs.States.{the_same}
use Rattle.pg_store.proofs.Stores.{copied_some, node_held}
use Rattle.pg_store.proofs.store.Store.add_label.Goals as goal
use Rattle.pg_store.specs.Journal.{live}
use Rattle.pg_store.specs.Stores.{state_of}

new_here : (n m : NodeRecord) (c : Content) (id label : ℕ) → map.get c.nodes id ≡ Some n → map.get c.nodes id ≡ Some m → list_any (λ l. l == label) n.labels ≡ false → list_any (λ l. l == label) m.labels ≡ false
new_here n m c id label read is new = subst (λ (x : NodeRecord). list_any (λ l. l == label) x.labels ≡ false) (the_same n m read is) new

pub unwrap-requires : goal.unwrap-requires
unwrap-requires g c =
    let store = c.args.self.now in
    copied_some c.node.result (subst IsSome (sym c.node.ensures) (node_held c.args.shared.now.names (live (state_of g.T.Tables.seen store c.args.shared.now)) store.next.node store.next.rel c.args.id.0 c.requires.there))

pub returns-then-contains : goal.returns-then-contains
returns-then-contains g c =
    let store = c.args.self.now in
    let names = c.args.shared.now.names in
    let s = state_of g.T.Tables.seen store c.args.shared.now in
    let n = c.unwrap.result.now in
    let is = sym c.node.ensures ∙ ap option_copied c.unwrap.ensures in
    let well = c.requires.fit.well.holds in
    let held = well.nodes c.args.id.0 n is in
    let there = sym c.contains.ensures ∙ c.if-contains.true in
    record {
      ok = sym (node_stays names (live s) store.next.node store.next.rel c.args.id.0 n (λ e. record e { labels = put_texts (text_of names c.args.label ∷ []) e.labels }) is
          (λ t. record { labels = label_there names c.args.label n.labels well.distinct held.labels c.requires.named there t; properties = property_entries names n.properties }));
      marks = marks_stay g.T.Tables.seen store c.args.shared.now;
      fit = c.requires.fit;
      keeps = nothing_touched store c.args.shared.now c.requires.fit;
    }

pub change_node-requires : goal.change_node-requires
change_node-requires g c =
    let store = c.args.self.now in
    let names = c.args.shared.now.names in
    let s = state_of g.T.Tables.seen store c.args.shared.now in
    let well = c.requires.fit.well.holds in
    let n = c.unwrap.result.now in
    let read = sym c.node.ensures ∙ ap option_copied c.unwrap.ensures in
    record {
      fit = c.requires.fit;
      there = node_held names (live s) store.next.node store.next.rel c.args.id.0 c.requires.there;
      change = λ m is. new_here n m (live s) c.args.id.0 c.args.label read is (sym c.contains.ensures ∙ c.if-contains.false);
      named = λ m is. let held = well.nodes c.args.id.0 m is in record { labels = named_put names c.args.label m.labels c.requires.named held.labels; keys = held.keys };
    }

pub returns-clause-ok : goal.returns-clause-ok
returns-clause-ok g c =
    let store = c.args.self.now in
    let names = c.args.shared.now.names in
    let s = state_of g.T.Tables.seen store c.args.shared.now in
    let n = c.unwrap.result.now in
    let is = sym c.node.ensures ∙ ap option_copied c.unwrap.ensures in
    let new : Node = node_of names (record n { labels = with_label n.labels c.args.label }) in
    on_ok_weaker c.change_node.result (λ made.
    made n is
    ∙ node_changed_alike names (live s) store.next.node store.next.rel c.args.id.0 n (λ _. new) (λ e. record e { labels = put_texts (text_of names c.args.label ∷ []) e.labels }) is
    (λ t. record { labels = label_put names c.args.label n.labels t; properties = property_entries names n.properties }))
    c.change_node.ensures.ok
