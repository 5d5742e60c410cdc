use Rattle.std.proofs.Common.{[], refl, sym, ap, subst, ◌∙◌}
use Rattle.std.proofs.lemmas.List.{nil_from_length}
use Rattle.std.proofs.lemmas.Option.{slice_get_within}
use Rattle.std.proofs.lemmas.Result.{IfOk-from_err}
use Rattle.std.specs.Vec.Iter.{into_iter_items}
use Rattle.pg_graph.proofs.NamedChanges.{text_is}
use Rattle.pg_graph.specs.Refinement.{text_of}
use Rattle.pg_names.specs.Names.{AreDistinct}
use Rattle.pg_meaning.specs.Entries.{set_key, set_keys}
use Rattle.pg_meaning.specs.Graph.{Graph, Node, change_node, has_node}
use Rattle.pg_store.proofs.ChangeLemmas.{marks_stay, marks_then, renamed, renamed_graph, renamed_fit, renamed_keeps, renamed_marks}
use Rattle.pg_store.proofs.Kept.{kept_then, nothing_touched}
use Rattle.pg_store.proofs.Changed.{node_there, node_twice, node_unchanged}
use Rattle.pg_store.proofs.store.Store.set_each_node_key.Goals as goal
use Rattle.pg_store.specs.Journal.{live}
use Rattle.pg_store.specs.Stores.{graph_of_store, state_of, pairs_of}
use Rattle.pg_value_core.specs.View.{view}

pub loop-key-init : goal.loop-key-init
loop-key-init g c = record {
  graph = ap (λ ps. change_node (λ (e : Node). record e { properties = set_keys (pairs_of ps) e.properties }) c.args.id.0 (graph_of_store g.T.Tables.seen c.args.self.now c.args.shared.now)) c.into_iter-key-iterator.ensures.into_iter_gives.0;
  there = c.requires.there;
  marks = marks_stay g.T.Tables.seen c.args.self.now c.args.shared.now;
  fit = c.requires.fit;
  keeps = nothing_touched c.args.self.now c.args.shared.now c.requires.fit;
}

pub set_node_key-requires : goal.set_node_key-requires
set_node_key-requires g c =
    let l = c.loop-key in
    let names = c.intern.new.self in
    let keeps = c.intern.ensures.keeps in
    record {
      fit = renamed_fit g.T.Tables.seen l.self l.shared names keeps l.invariant.fit c.in_ok-key.ensures.distinct;
      there = ap (λ (x : Graph). has_node x c.args.id.0) (renamed_graph g.T.Tables.seen l.self l.shared names keeps l.invariant.fit) ∙ l.invariant.there;
      named = slice_get_within names c.in_ok-key.key _ c.in_ok-key.ensures.number;
    }

pub loop-key-preserved : goal.loop-key-preserved
loop-key-preserved g c =
    let seen = g.T.Tables.seen in
    let l = c.loop-key in
    let names = c.intern.new.self in
    let keeps = c.intern.ensures.keeps in
    let distinct = c.in_ok-key.ensures.distinct in
    let was = l.invariant in
    let set = c.set_node_key.ensures in
    let id = c.args.id.0 in
    let now = graph_of_store seen l.self l.shared in
    let same = renamed_graph seen l.self l.shared names keeps was.fit in
    let made = c.in_ok-set_node_key.ensures.ok ∙ ap (change_node (λ (e : Node). record e { properties = set_key (text_of names c.in_ok-key.key) (view c.in-Some.value) e.properties }) id) same ∙ ap (λ t. change_node (λ (e : Node). record e { properties = set_key t (view c.in-Some.value) e.properties }) id now) (text_is names c.in_ok-key.key _ c.in_ok-key.ensures.number) in
    record {
      graph = ap (change_node (λ (e : Node). record e { properties = set_keys (pairs_of (into_iter_items c.next.new.self)) e.properties }) id) made ∙ node_twice id now _ _ ∙ sym (ap (λ ps. change_node (λ (e : Node). record e { properties = set_keys (pairs_of ps) e.properties }) id now) c.in-Some.ensures.steps.0) ∙ was.graph;
      there = ap (λ (x : Graph). has_node x id) made ∙ node_there id now _ was.there;
      marks = marks_then seen c.args.self.now l.self c.set_node_key.new.self c.args.shared.now l.shared c.set_node_key.new.shared was.marks
          (marks_then seen l.self l.self c.set_node_key.new.self l.shared (renamed seen l.self l.shared names keeps was.fit) c.set_node_key.new.shared (renamed_marks seen l.self l.shared names keeps was.fit) set.marks);
      fit = set.fit;
      keeps = kept_then c.args.self.now l.self c.set_node_key.new.self c.args.shared.now l.shared c.set_node_key.new.shared was.keeps
          (kept_then l.self l.self c.set_node_key.new.self l.shared (renamed seen l.self l.shared names keeps was.fit) c.set_node_key.new.shared (renamed_keeps seen l.self l.shared names keeps was.fit distinct) set.keeps);
    }

pub returns-in_err-set_node_key : goal.returns-in_err-set_node_key
returns-in_err-set_node_key g c =
    let seen = g.T.Tables.seen in
    let l = c.loop-key in
    let names = c.intern.new.self in
    let keeps = c.intern.ensures.keeps in
    let distinct = c.in_ok-key.ensures.distinct in
    let was = l.invariant in
    let set = c.set_node_key.ensures in
    record {
      ok = IfOk-from_err c.from_residual-in_err-set_node_key.result _ c.from_residual-in_err-set_node_key.ensures.0;
      marks = marks_then seen c.args.self.now l.self c.set_node_key.new.self c.args.shared.now l.shared c.set_node_key.new.shared was.marks
          (marks_then seen l.self l.self c.set_node_key.new.self l.shared (renamed seen l.self l.shared names keeps was.fit) c.set_node_key.new.shared (renamed_marks seen l.self l.shared names keeps was.fit) set.marks);
      fit = set.fit;
      keeps = kept_then c.args.self.now l.self c.set_node_key.new.self c.args.shared.now l.shared c.set_node_key.new.shared was.keeps
          (kept_then l.self l.self c.set_node_key.new.self l.shared (renamed seen l.self l.shared names keeps was.fit) c.set_node_key.new.shared (renamed_keeps seen l.self l.shared names keeps was.fit distinct) set.keeps);
    }

pub returns-in_err-key : goal.returns-in_err-key
returns-in_err-key g c =
    let seen = g.T.Tables.seen in
    let l = c.loop-key in
    let names = c.intern.new.self in
    let keeps = c.intern.ensures.keeps in
    let was = l.invariant in
    let distinct = subst AreDistinct (sym c.in_err-key.ensures.err) was.fit.well.held.distinct in
    record {
      ok = IfOk-from_err c.from_residual.result _ c.from_residual.ensures.0;
      marks = marks_then seen c.args.self.now l.self l.self c.args.shared.now l.shared _ was.marks (renamed_marks seen l.self l.shared names keeps was.fit);
      fit = renamed_fit seen l.self l.shared names keeps was.fit distinct;
      keeps = kept_then c.args.self.now l.self l.self c.args.shared.now l.shared _ was.keeps (renamed_keeps seen l.self l.shared names keeps was.fit distinct);
    }

pub returns : goal.returns
returns g c =
    let l = c.loop-key in
    let was = l.invariant in
    let id = c.args.id.0 in
    let s = state_of g.T.Tables.seen l.self l.shared in
    let now = graph_of_store g.T.Tables.seen l.self l.shared in
    let none = nil_from_length (into_iter_items l.key-iterator) (sym l.key-iterator.rest.ok.0 ∙ c.in-None.ensures.steps.0) in
    record {
      ok = sym (node_unchanged l.shared.names (live s) s.next.node s.next.rel id (λ (e : Node). record e { properties = set_keys (pairs_of []) e.properties }) (λ e. refl)) ∙ ap (λ ps. change_node (λ (e : Node). record e { properties = set_keys (pairs_of ps) e.properties }) id now) (sym none) ∙ was.graph;
      marks = was.marks;
      fit = was.fit;
      keeps = was.keeps;
    }
