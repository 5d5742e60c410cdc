use Rattle.std.proofs.Common.{ap, ◌∙◌}
use Rattle.std.proofs.lemmas.Result.{IfOk-from_err, on_ok_weaker, on_err_weaker}
use Rattle.std.specs.FinMap as map
use Rattle.pg_graph.specs.Refinement.{property_entries}
use Rattle.pg_meaning.specs.Graph.{change_relationship}
use Rattle.pg_store.proofs.ChangeLemmas.{at_err, marks_then, renamed_graph, renamed_fit, renamed_keeps, renamed_marks}
use Rattle.pg_store.proofs.Kept.{kept_then}
use Rattle.pg_store.proofs.States.{present}
use Rattle.pg_store.proofs.Stores.{rel_held}
use Rattle.pg_store.proofs.store.Store.replace_rel_properties.Goals as goal
use Rattle.pg_store.specs.Journal.{live}
use Rattle.pg_store.specs.Stores.{state_of, graph_of_store}

pub returns-in_err-properties-clause-changes : goal.returns-in_err-properties-clause-changes
returns-in_err-properties-clause-changes g c = record {
  says = IfOk-from_err c.from_residual.result _ c.from_residual.ensures.0;
  same = (at_err c.from_residual.result (renamed_graph g.T.Tables.seen c.args.self.now c.args.shared.now c.properties_of.new.names c.properties_of.ensures.keeps c.requires.fit));
  fit = (renamed_fit g.T.Tables.seen c.args.self.now c.args.shared.now c.properties_of.new.names c.properties_of.ensures.keeps c.requires.fit c.properties_of.ensures.distinct);
  keeps = renamed_keeps g.T.Tables.seen c.args.self.now c.args.shared.now c.properties_of.new.names c.properties_of.ensures.keeps c.requires.fit c.properties_of.ensures.distinct;
}

pub returns-in_err-properties-clause-marks : goal.returns-in_err-properties-clause-marks
returns-in_err-properties-clause-marks g c = renamed_marks g.T.Tables.seen c.args.self.now c.args.shared.now c.properties_of.new.names c.properties_of.ensures.keeps c.requires.fit

pub change_rel-requires : goal.change_rel-requires
change_rel-requires g c =
    let store = c.args.self.now in
    let s = state_of g.T.Tables.seen store c.args.shared.now in
    record {
      fit = renamed_fit g.T.Tables.seen store c.args.shared.now c.properties_of.new.names c.properties_of.ensures.keeps c.requires.fit c.properties_of.ensures.distinct;
      there = rel_held c.args.shared.now.names (live s) store.next.node store.next.rel c.args.id.0 c.requires.there;
      change = λ r is. tt;
      named = λ r is. c.in_ok-properties.ensures.named;
    }

pub returns-clause-changes : goal.returns-clause-changes
returns-clause-changes g c = record {
  says = (let store = c.args.self.now in
      let same = renamed_graph g.T.Tables.seen store c.args.shared.now c.properties_of.new.names c.properties_of.ensures.keeps c.requires.fit in
      let s = state_of g.T.Tables.seen store c.args.shared.now in
      let r = present (map.get (live s).rels c.args.id.0) (rel_held c.args.shared.now.names (live s) store.next.node store.next.rel c.args.id.0 c.requires.there) in
      on_ok_weaker c.change_rel.result (λ made.
      made r.0 r.1
      ∙ ap (change_relationship (λ r. record r { properties = property_entries c.properties_of.new.names c.in_ok-properties.properties }) c.args.id.0) same
      ∙ ap (λ es. change_relationship (λ r. record r { properties = es }) c.args.id.0 (graph_of_store g.T.Tables.seen store c.args.shared.now)) c.in_ok-properties.ensures.properties)
      c.change_rel.ensures.ok);
  same = (on_err_weaker c.change_rel.result (λ e. e ∙ renamed_graph g.T.Tables.seen c.args.self.now c.args.shared.now c.properties_of.new.names c.properties_of.ensures.keeps c.requires.fit)
      c.change_rel.ensures.err);
  fit = c.change_rel.ensures.fit;
  keeps = kept_then c.args.self.now c.args.self.now c.change_rel.new.self c.args.shared.now _ c.change_rel.new.shared (renamed_keeps g.T.Tables.seen c.args.self.now c.args.shared.now c.properties_of.new.names c.properties_of.ensures.keeps c.requires.fit c.properties_of.ensures.distinct) c.change_rel.ensures.keeps;
}

pub returns-clause-marks : goal.returns-clause-marks
returns-clause-marks g c =
    marks_then g.T.Tables.seen c.args.self.now c.args.self.now c.change_rel.new.self c.args.shared.now _ c.change_rel.new.shared
    (renamed_marks g.T.Tables.seen c.args.self.now c.args.shared.now c.properties_of.new.names c.properties_of.ensures.keeps c.requires.fit)
    c.change_rel.ensures.marks
