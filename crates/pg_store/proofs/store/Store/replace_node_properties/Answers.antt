use Rattle.std.proofs.Common.{ap, ◌∙◌}
use Rattle.std.proofs.lemmas.Result.{IfOk-from_err, on_ok_weaker, on_err_weaker}
use Rattle.std.specs.FinMap as map
use Rattle.pg_graph.proofs.Held.{more_named}
use Rattle.pg_graph.specs.Refinement.{node_of}
use Rattle.pg_meaning.specs.Entries.{set_keys}
use Rattle.pg_meaning.specs.Graph.{Node, change_node}
use Rattle.pg_meaning.specs.Value.{no_entries}
use Rattle.pg_store.proofs.ChangeLemmas.{at_err, marks_then, renamed_graph, renamed_fit, renamed_keeps, renamed_marks}
use Rattle.pg_store.proofs.Kept.{kept_then}
use Rattle.pg_store.proofs.Changed.{node_changed_alike, with_properties}
use Rattle.pg_store.proofs.States.{present}
use Rattle.pg_store.proofs.Stores.{node_held}
use Rattle.pg_store.proofs.store.Store.replace_node_properties.Goals as goal
use Rattle.pg_store.specs.Journal.{live}
use Rattle.pg_store.specs.Stores.{state_of, pairs_of}

pub returns-in_err-properties-clause-changes : goal.returns-in_err-properties-clause-changes
returns-in_err-properties-clause-changes g c = record {
  says = IfOk-from_err c.from_residual.result _ c.from_residual.ensures.0;
  same = (at_err c.from_residual.result (renamed_graph g.T.Tables.seen c.args.self.now c.args.shared.now c.properties_of.new.names c.properties_of.ensures.keeps c.requires.fit));
  fit = (renamed_fit g.T.Tables.seen c.args.self.now c.args.shared.now c.properties_of.new.names c.properties_of.ensures.keeps c.requires.fit c.properties_of.ensures.distinct);
  keeps = renamed_keeps g.T.Tables.seen c.args.self.now c.args.shared.now c.properties_of.new.names c.properties_of.ensures.keeps c.requires.fit c.properties_of.ensures.distinct;
}

pub returns-in_err-properties-clause-marks : goal.returns-in_err-properties-clause-marks
returns-in_err-properties-clause-marks g c = renamed_marks g.T.Tables.seen c.args.self.now c.args.shared.now c.properties_of.new.names c.properties_of.ensures.keeps c.requires.fit

pub change_node-requires : goal.change_node-requires
change_node-requires g c =
    let store = c.args.self.now in
    let names = c.args.shared.now.names in
    let s = state_of g.T.Tables.seen store c.args.shared.now in
    record {
      fit = renamed_fit g.T.Tables.seen store c.args.shared.now c.properties_of.new.names c.properties_of.ensures.keeps c.requires.fit c.properties_of.ensures.distinct;
      there = node_held names (live s) store.next.node store.next.rel c.args.id.0 c.requires.there;
      change = λ n is. tt;
      named = λ n is. record { labels = more_named names c.properties_of.new.names c.properties_of.ensures.keeps n.labels (c.requires.fit.well.holds.nodes c.args.id.0 n is).labels; keys = c.in_ok-properties.ensures.named };
    }

pub returns-clause-changes : goal.returns-clause-changes
returns-clause-changes g c = record {
  says = (let store = c.args.self.now in
      let names = c.args.shared.now.names in
      let s = state_of g.T.Tables.seen store c.args.shared.now in
      let n = present (map.get (live s).nodes c.args.id.0) (node_held names (live s) store.next.node store.next.rel c.args.id.0 c.requires.there) in
      let same = renamed_graph g.T.Tables.seen store c.args.shared.now c.properties_of.new.names c.properties_of.ensures.keeps c.requires.fit in
      let new : Node = node_of c.properties_of.new.names (record n.0 { properties = c.in_ok-properties.properties }) in
      on_ok_weaker c.change_node.result (λ made.
      made n.0 n.1
      ∙ ap (change_node (λ _. new) c.args.id.0) same
      ∙ node_changed_alike names (live s) store.next.node store.next.rel c.args.id.0 n.0 (λ _. new)
      (λ e. record e { properties = set_keys (pairs_of c.args.properties.items) no_entries }) n.1
      (with_properties names c.properties_of.new.names n.0 c.in_ok-properties.properties _ c.properties_of.ensures.keeps (c.requires.fit.well.holds.nodes c.args.id.0 n.0 n.1).labels c.in_ok-properties.ensures.properties))
      c.change_node.ensures.ok);
  same = (on_err_weaker c.change_node.result (λ e. e ∙ renamed_graph g.T.Tables.seen c.args.self.now c.args.shared.now c.properties_of.new.names c.properties_of.ensures.keeps c.requires.fit)
      c.change_node.ensures.err);
  fit = c.change_node.ensures.fit;
  keeps = kept_then c.args.self.now c.args.self.now c.change_node.new.self c.args.shared.now _ c.change_node.new.shared (renamed_keeps g.T.Tables.seen c.args.self.now c.args.shared.now c.properties_of.new.names c.properties_of.ensures.keeps c.requires.fit c.properties_of.ensures.distinct) c.change_node.ensures.keeps;
}

pub returns-clause-marks : goal.returns-clause-marks
returns-clause-marks g c =
    marks_then g.T.Tables.seen c.args.self.now c.args.self.now c.change_node.new.self c.args.shared.now _ c.change_node.new.shared
    (renamed_marks g.T.Tables.seen c.args.self.now c.args.shared.now c.properties_of.new.names c.properties_of.ensures.keeps c.requires.fit)
    c.change_node.ensures.marks
