use Rattle.std.proofs.Common.{ℕ, List, IsSome, option_copied, not, filter, refl, sym, ap, subst, ◌∙◌}
use Rattle.std.proofs.lemmas.Result.{on_ok_weaker, IfOk-from_err}
use Rattle.pg_graph.specs.Refinement.{AreNamed, label_texts, property_entries, node_of}
use Rattle.pg_meaning.specs.Graph.{Node}
use Rattle.pg_meaning.specs.Names.{is_among}
use Rattle.pg_store.proofs.Kept.{nothing_touched}
use Rattle.pg_store.proofs.ChangeLemmas.{at_err, marks_stay}
use Rattle.pg_store.proofs.Changed.{node_changed_alike, without_is}
use Rattle.pg_store.proofs.Stores.{copied_some, node_held}
use Rattle.pg_store.proofs.store.Store.remove_labels.Goals as goal
use Rattle.pg_store.specs.Journal.{live}
use Rattle.pg_store.specs.Stores.{state_of, texts_of}

pub unwrap-requires : goal.unwrap-requires
unwrap-requires g c =
    let store = c.args.self.now in
    copied_some c.node.result (subst IsSome (sym c.node.ensures) (node_held c.args.shared.now.names (live (state_of g.T.Tables.seen store c.args.shared.now)) store.next.node store.next.rel c.args.id.0 c.requires.there))

pub less_labels-labels-requires : goal.less_labels-labels-requires
less_labels-labels-requires g c =
    subst (AreNamed c.args.shared.now.names) (sym c.in_ok-before.ensures) (c.requires.fit.well.holds.nodes c.args.id.0 c.unwrap.result.now (sym c.node.ensures ∙ ap option_copied c.unwrap.ensures)).labels

pub change_node-requires : goal.change_node-requires
change_node-requires g c =
    let store = c.args.self.now in
    let names = c.args.shared.now.names in
    let s = state_of g.T.Tables.seen store c.args.shared.now in
    record {
      fit = c.requires.fit;
      there = node_held names (live s) store.next.node store.next.rel c.args.id.0 c.requires.there;
      change = λ n is. tt;
      named = λ n is. record { labels = c.less_labels-labels.ensures.named; keys = (c.requires.fit.well.holds.nodes c.args.id.0 n is).keys };
    }

pub returns-clause-changes : goal.returns-clause-changes
returns-clause-changes g c = record {
  says = (let store = c.args.self.now in
      let names = c.args.shared.now.names in
      let s = state_of g.T.Tables.seen store c.args.shared.now in
      let n = c.unwrap.result.now in
      let is = sym c.node.ensures ∙ ap option_copied c.unwrap.ensures in
      let gone = texts_of c.args.labels.now.items in
      let new : Node = node_of names (record n { labels = c.less_labels-labels.result }) in
      on_ok_weaker c.change_node.result (λ made.
      made n is
      ∙ node_changed_alike names (live s) store.next.node store.next.rel c.args.id.0 n (λ _. new) (λ e. record e { labels = filter (λ l. not (is_among gone l)) e.labels }) is
      (λ t. record {
        labels = (c.less_labels-labels.ensures.labels ∙ without_is gone (label_texts names c.in_ok-before.before) ∙ ap (λ (ls : List ℕ). filter (λ l. not (is_among gone l)) (label_texts names ls)) c.in_ok-before.ensures) t;
        properties = property_entries names n.properties;
      }))
      c.change_node.ensures.ok);
  same = c.change_node.ensures.err;
  fit = c.change_node.ensures.fit;
  keeps = c.change_node.ensures.keeps;
}

pub returns-in_err-before-clause-changes : goal.returns-in_err-before-clause-changes
returns-in_err-before-clause-changes g c = record {
  says = IfOk-from_err c.from_residual.result _ c.from_residual.ensures.0;
  same = at_err c.from_residual.result refl;
  fit = c.requires.fit;
  keeps = nothing_touched c.args.self.now c.args.shared.now c.requires.fit;
}

pub returns-in_err-before-clause-marks : goal.returns-in_err-before-clause-marks
returns-in_err-before-clause-marks g c = marks_stay g.T.Tables.seen c.args.self.now c.args.shared.now
