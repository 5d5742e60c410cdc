use Rattle.std.proofs.Common.{◌∙◌, sym, subst}
use Rattle.std.proofs.lemmas.Option.{slice_get_within}
use Rattle.std.proofs.lemmas.Result.{IfOk-from_err, on_ok_weaker, on_err_weaker}
use Rattle.pg_graph.proofs.NamedChanges.{text_is}
use Rattle.pg_meaning.specs.Graph.{add_relationship}
use Rattle.pg_names.specs.Names.{AreDistinct}
use Rattle.pg_store.proofs.ChangeLemmas.{at_err, marks_then, renamed_graph, renamed_fit, renamed_keeps, renamed_marks}
use Rattle.pg_store.proofs.Kept.{keeps_both, kept_then}
use Rattle.pg_store.proofs.Stores.{node_held}
use Rattle.pg_store.proofs.store.Store.create_rel.Goals as goal
use Rattle.pg_store.specs.Journal.{live}
use Rattle.pg_store.specs.Stores.{state_of}

pub returns-in_err-properties-clause-changes : goal.returns-in_err-properties-clause-changes
returns-in_err-properties-clause-changes g c = record {
  says = IfOk-from_err c.from_residual-in_err-properties.result _ c.from_residual-in_err-properties.ensures.0;
  same = (at_err c.from_residual-in_err-properties.result (renamed_graph g.T.Tables.seen c.args.self.now c.args.shared.now c.properties_of.new.names
      (keeps_both c.args.shared.now.names c.intern.new.self c.properties_of.new.names c.intern.ensures.keeps c.properties_of.ensures.keeps) c.requires.fit));
  fit = (renamed_fit g.T.Tables.seen c.args.self.now c.args.shared.now c.properties_of.new.names
      (keeps_both c.args.shared.now.names c.intern.new.self c.properties_of.new.names c.intern.ensures.keeps c.properties_of.ensures.keeps) c.requires.fit c.properties_of.ensures.distinct);
  keeps = renamed_keeps g.T.Tables.seen c.args.self.now c.args.shared.now c.properties_of.new.names (keeps_both c.args.shared.now.names c.intern.new.self c.properties_of.new.names c.intern.ensures.keeps c.properties_of.ensures.keeps) c.requires.fit c.properties_of.ensures.distinct;
}

pub returns-in_err-properties-clause-marks : goal.returns-in_err-properties-clause-marks
returns-in_err-properties-clause-marks g c =
    renamed_marks g.T.Tables.seen c.args.self.now c.args.shared.now c.properties_of.new.names
    (keeps_both c.args.shared.now.names c.intern.new.self c.properties_of.new.names c.intern.ensures.keeps c.properties_of.ensures.keeps) c.requires.fit

pub add_rel-requires-clause-fit : goal.add_rel-requires-clause-fit
add_rel-requires-clause-fit g c =
    renamed_fit g.T.Tables.seen c.args.self.now c.args.shared.now c.properties_of.new.names
    (keeps_both c.args.shared.now.names c.intern.new.self c.properties_of.new.names c.intern.ensures.keeps c.properties_of.ensures.keeps) c.requires.fit c.properties_of.ensures.distinct

pub add_rel-requires-clause-kind : goal.add_rel-requires-clause-kind
add_rel-requires-clause-kind g c = slice_get_within c.properties_of.new.names c.in_ok-kind.kind c.args.kind.now (c.properties_of.ensures.keeps c.in_ok-kind.kind c.args.kind.now c.in_ok-kind.ensures.number)

pub add_rel-requires-clause-source : goal.add_rel-requires-clause-source
add_rel-requires-clause-source g c =
    let store = c.args.self.now in
    node_held c.args.shared.now.names (live (state_of g.T.Tables.seen store c.args.shared.now)) store.next.node store.next.rel c.args.ends.source.0 c.requires.source

pub add_rel-requires-clause-target : goal.add_rel-requires-clause-target
add_rel-requires-clause-target g c =
    let store = c.args.self.now in
    node_held c.args.shared.now.names (live (state_of g.T.Tables.seen store c.args.shared.now)) store.next.node store.next.rel c.args.ends.target.0 c.requires.target

pub returns-clause-changes : goal.returns-clause-changes
returns-clause-changes g c = record {
  says = (let same = renamed_graph g.T.Tables.seen c.args.self.now c.args.shared.now c.properties_of.new.names
      (keeps_both c.args.shared.now.names c.intern.new.self c.properties_of.new.names c.intern.ensures.keeps c.properties_of.ensures.keeps) c.requires.fit in
      let text = text_is c.properties_of.new.names c.in_ok-kind.kind c.args.kind.now (c.properties_of.ensures.keeps c.in_ok-kind.kind c.args.kind.now c.in_ok-kind.ensures.number) in
      on_ok_weaker c.add_rel.result (λ h. h ∙ (λ i. add_relationship (text i) c.args.ends.source.0 c.args.ends.target.0 (c.in_ok-properties.ensures.properties i) (same i))) c.add_rel.ensures.ok);
  same = (on_err_weaker c.add_rel.result (λ e. e ∙ renamed_graph g.T.Tables.seen c.args.self.now c.args.shared.now c.properties_of.new.names
      (keeps_both c.args.shared.now.names c.intern.new.self c.properties_of.new.names c.intern.ensures.keeps c.properties_of.ensures.keeps) c.requires.fit)
      c.add_rel.ensures.err);
  fit = c.add_rel.ensures.fit;
  keeps = kept_then c.args.self.now c.args.self.now c.add_rel.new.self c.args.shared.now _ c.add_rel.new.shared (renamed_keeps g.T.Tables.seen c.args.self.now c.args.shared.now c.properties_of.new.names (keeps_both c.args.shared.now.names c.intern.new.self c.properties_of.new.names c.intern.ensures.keeps c.properties_of.ensures.keeps) c.requires.fit c.properties_of.ensures.distinct) c.add_rel.ensures.keeps;
}

pub returns-clause-marks : goal.returns-clause-marks
returns-clause-marks g c =
    marks_then g.T.Tables.seen c.args.self.now c.args.self.now c.add_rel.new.self c.args.shared.now _ c.add_rel.new.shared
    (renamed_marks g.T.Tables.seen c.args.self.now c.args.shared.now c.properties_of.new.names
    (keeps_both c.args.shared.now.names c.intern.new.self c.properties_of.new.names c.intern.ensures.keeps c.properties_of.ensures.keeps) c.requires.fit)
    c.add_rel.ensures.marks

pub returns-in_err-kind-clause-changes : goal.returns-in_err-kind-clause-changes
returns-in_err-kind-clause-changes g c =
    let store = c.args.self.now in
    let shared = c.args.shared.now in
    let names = c.intern.new.self in
    let distinct = subst AreDistinct (sym c.in_err-kind.ensures.err) c.requires.fit.well.held.distinct in
    record {
      says = IfOk-from_err c.from_residual.result _ c.from_residual.ensures.0;
      same = at_err c.from_residual.result (renamed_graph g.T.Tables.seen store shared names c.intern.ensures.keeps c.requires.fit);
      fit = renamed_fit g.T.Tables.seen store shared names c.intern.ensures.keeps c.requires.fit distinct;
      keeps = renamed_keeps g.T.Tables.seen store shared names c.intern.ensures.keeps c.requires.fit distinct;
    }

pub returns-in_err-kind-clause-marks : goal.returns-in_err-kind-clause-marks
returns-in_err-kind-clause-marks g c = renamed_marks g.T.Tables.seen c.args.self.now c.args.shared.now c.intern.new.self c.intern.ensures.keeps c.requires.fit
