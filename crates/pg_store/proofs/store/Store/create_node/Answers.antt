use Rattle.std.proofs.Common.{ℕ, List, sym, ap, ◌∙◌}
use Rattle.std.proofs.lemmas.Result.{IfOk-from_err, on_ok_weaker, on_err_weaker}
use Rattle.pg_graph.proofs.Held.{more_named}
use Rattle.pg_graph.proofs.NamedChanges.{label_texts_kept}
use Rattle.pg_graph.specs.Refinement.{label_texts}
use Rattle.pg_meaning.specs.Graph.{add_node}
use Rattle.pg_meaning.specs.Names.{put_texts}
use Rattle.pg_store.proofs.ChangeLemmas.{at_err, marks_then, renamed_graph, renamed_fit, renamed_keeps, renamed_marks}
use Rattle.pg_store.proofs.Kept.{keeps_both, kept_then}
use Rattle.pg_store.proofs.store.Store.create_node.Goals as goal
use Rattle.pg_store.specs.Stores.{texts_of}

pub returns-in_err-labels-clause-id : goal.returns-in_err-labels-clause-id
returns-in_err-labels-clause-id g c = IfOk-from_err c.from_residual.result _ c.from_residual.ensures.0

pub returns-in_err-labels-clause-changes : goal.returns-in_err-labels-clause-changes
returns-in_err-labels-clause-changes g c = record {
  says = IfOk-from_err c.from_residual.result _ c.from_residual.ensures.0;
  same = (at_err c.from_residual.result (renamed_graph g.T.Tables.seen c.args.self.now c.args.shared.now c.more_labels.new.names c.more_labels.ensures.keeps c.requires.fit));
  fit = (renamed_fit g.T.Tables.seen c.args.self.now c.args.shared.now c.more_labels.new.names c.more_labels.ensures.keeps c.requires.fit c.more_labels.ensures.distinct);
  keeps = renamed_keeps g.T.Tables.seen c.args.self.now c.args.shared.now c.more_labels.new.names c.more_labels.ensures.keeps c.requires.fit c.more_labels.ensures.distinct;
}

pub returns-in_err-labels-clause-marks : goal.returns-in_err-labels-clause-marks
returns-in_err-labels-clause-marks g c = renamed_marks g.T.Tables.seen c.args.self.now c.args.shared.now c.more_labels.new.names c.more_labels.ensures.keeps c.requires.fit

pub returns-in_err-properties-clause-id : goal.returns-in_err-properties-clause-id
returns-in_err-properties-clause-id g c = IfOk-from_err c.from_residual-in_err-properties.result _ c.from_residual-in_err-properties.ensures.0

pub returns-in_err-properties-clause-changes : goal.returns-in_err-properties-clause-changes
returns-in_err-properties-clause-changes g c = record {
  says = IfOk-from_err c.from_residual-in_err-properties.result _ c.from_residual-in_err-properties.ensures.0;
  same = (at_err c.from_residual-in_err-properties.result (renamed_graph g.T.Tables.seen c.args.self.now c.args.shared.now c.properties_of.new.names
      (keeps_both c.args.shared.now.names c.more_labels.new.names c.properties_of.new.names c.more_labels.ensures.keeps c.properties_of.ensures.keeps) c.requires.fit));
  fit = (renamed_fit g.T.Tables.seen c.args.self.now c.args.shared.now c.properties_of.new.names
      (keeps_both c.args.shared.now.names c.more_labels.new.names c.properties_of.new.names c.more_labels.ensures.keeps c.properties_of.ensures.keeps) c.requires.fit c.properties_of.ensures.distinct);
  keeps = renamed_keeps g.T.Tables.seen c.args.self.now c.args.shared.now c.properties_of.new.names (keeps_both c.args.shared.now.names c.more_labels.new.names c.properties_of.new.names c.more_labels.ensures.keeps c.properties_of.ensures.keeps) c.requires.fit c.properties_of.ensures.distinct;
}

pub returns-in_err-properties-clause-marks : goal.returns-in_err-properties-clause-marks
returns-in_err-properties-clause-marks g c =
    renamed_marks g.T.Tables.seen c.args.self.now c.args.shared.now c.properties_of.new.names
    (keeps_both c.args.shared.now.names c.more_labels.new.names c.properties_of.new.names c.more_labels.ensures.keeps c.properties_of.ensures.keeps) c.requires.fit

pub add_node-requires-clause-fit : goal.add_node-requires-clause-fit
add_node-requires-clause-fit g c =
    renamed_fit g.T.Tables.seen c.args.self.now c.args.shared.now c.properties_of.new.names
    (keeps_both c.args.shared.now.names c.more_labels.new.names c.properties_of.new.names c.more_labels.ensures.keeps c.properties_of.ensures.keeps) c.requires.fit c.properties_of.ensures.distinct

pub add_node-requires-clause-labels : goal.add_node-requires-clause-labels
add_node-requires-clause-labels g c = more_named c.more_labels.new.names c.properties_of.new.names c.properties_of.ensures.keeps c.in_ok-labels.labels c.in_ok-labels.ensures.named

pub add_node-requires-clause-keys : goal.add_node-requires-clause-keys
add_node-requires-clause-keys g c = c.in_ok-properties.ensures.named

pub returns-clause-id : goal.returns-clause-id
returns-clause-id g c = c.add_node.ensures.id

pub returns-clause-changes : goal.returns-clause-changes
returns-clause-changes g c = record {
  says = (let same = renamed_graph g.T.Tables.seen c.args.self.now c.args.shared.now c.properties_of.new.names
      (keeps_both c.args.shared.now.names c.more_labels.new.names c.properties_of.new.names c.more_labels.ensures.keeps c.properties_of.ensures.keeps) c.requires.fit in
      let texts = texts_of c.args.labels.now.items in
      on_ok_weaker c.add_node.result (λ h.
      h texts (sym (label_texts_kept c.more_labels.new.names c.properties_of.new.names c.properties_of.ensures.keeps c.in_ok-labels.labels c.in_ok-labels.ensures.named ∙ c.in_ok-labels.ensures.labels ∙ ap (λ (ls : List ℕ). put_texts texts (label_texts c.args.shared.now.names ls)) c.new.ensures))
      ∙ (λ i. add_node texts (c.in_ok-properties.ensures.properties i) (same i)))
      c.add_node.ensures.ok);
  same = (on_err_weaker c.add_node.result (λ e. e ∙ renamed_graph g.T.Tables.seen c.args.self.now c.args.shared.now c.properties_of.new.names
      (keeps_both c.args.shared.now.names c.more_labels.new.names c.properties_of.new.names c.more_labels.ensures.keeps c.properties_of.ensures.keeps) c.requires.fit)
      c.add_node.ensures.err);
  fit = c.add_node.ensures.fit;
  keeps = kept_then c.args.self.now c.args.self.now c.add_node.new.self c.args.shared.now _ c.add_node.new.shared (renamed_keeps g.T.Tables.seen c.args.self.now c.args.shared.now c.properties_of.new.names (keeps_both c.args.shared.now.names c.more_labels.new.names c.properties_of.new.names c.more_labels.ensures.keeps c.properties_of.ensures.keeps) c.requires.fit c.properties_of.ensures.distinct) c.add_node.ensures.keeps;
}

pub returns-clause-marks : goal.returns-clause-marks
returns-clause-marks g c =
    marks_then g.T.Tables.seen c.args.self.now c.args.self.now c.add_node.new.self c.args.shared.now _ c.add_node.new.shared
    (renamed_marks g.T.Tables.seen c.args.self.now c.args.shared.now c.properties_of.new.names
    (keeps_both c.args.shared.now.names c.more_labels.new.names c.properties_of.new.names c.more_labels.ensures.keeps c.properties_of.ensures.keeps) c.requires.fit)
    c.add_node.ensures.marks
