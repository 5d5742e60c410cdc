use Rattle.std.proofs.Common.{◌≡◌, ◌<◌, ◌≤◌, ◌+◌, ℕ, List, ◌∷◌, Bor, drop, get_or, length, [], refl, sym, ap, subst, ◌∙◌}
use Rattle.std.proofs.lemmas.List.{at_drop_more, at_drop_all}
use Rattle.std.proofs.lemmas.Option.{slice_get_within}
use Rattle.std.proofs.lemmas.Result.{IfOk-from_err}
use Rattle.pg_graph.proofs.NamedChanges.{text_is}
use Rattle.pg_graph.specs.Refinement.{text_of}
use Rattle.pg_names.specs.Names.{AreDistinct}
use Rattle.pg_meaning.specs.Names.{put_texts}
use Rattle.pg_meaning.specs.Graph.{Graph, Node, change_node, has_node}
use Rattle.pg_store.proofs.ChangeLemmas.{marks_stay, marks_then, renamed, renamed_graph, renamed_fit, renamed_keeps, renamed_marks}
use Rattle.pg_store.proofs.Kept.{kept_then, nothing_touched}
use Rattle.pg_store.proofs.Changed.{node_there, node_twice, node_unchanged}
use Rattle.pg_store.proofs.store.Store.add_each_label.Goals as goal
use Rattle.pg_store.specs.Journal.{live}
use Rattle.pg_store.specs.Stores.{graph_of_store, state_of, texts_of}

-- the text of this turn, put before those to come
turn : (texts items : List (Bor (List ℕ))) (i : ℕ) (d : Bor (List ℕ)) (id : ℕ) (now : Graph) → items ≡ texts → i < length items
    → change_node (λ (e : Node). record e { labels = put_texts (texts_of (drop (i + 1) texts)) (put_texts ((get_or items i d).now ∷ []) e.labels) }) id now ≡ change_node (λ (e : Node). record e { labels = put_texts (texts_of (drop i texts)) e.labels }) id now
turn texts items i d id now same within =
    ap (λ ts. change_node (λ (e : Node). record e { labels = put_texts (texts_of (drop (i + 1) ts)) (put_texts ((get_or items i d).now ∷ []) e.labels) }) id now) (sym same)
    ∙ sym (at_drop_more (λ ts. change_node (λ (e : Node). record e { labels = put_texts (texts_of ts) e.labels }) id now) items i d within)
    ∙ ap (λ ts. change_node (λ (e : Node). record e { labels = put_texts (texts_of (drop i ts)) e.labels }) id now) same

pub loop-text-init : goal.loop-text-init
loop-text-init g c = record {
  graph = refl;
  there = c.requires.there;
  marks = marks_stay g.T.Tables.seen c.args.self.now c.args.shared.now;
  fit = c.requires.fit;
  keeps = nothing_touched c.args.self.now c.args.shared.now c.requires.fit;
}

pub add_label-requires : goal.add_label-requires
add_label-requires g c =
    let l = c.loop-text in
    let names = c.intern.new.self in
    let keeps = c.intern.ensures.keeps in
    record {
      fit = renamed_fit g.T.Tables.seen l.self l.shared names keeps l.invariant.fit c.in_ok-label.ensures.distinct;
      there = ap (λ (x : Graph). has_node x c.args.id.0) (renamed_graph g.T.Tables.seen l.self l.shared names keeps l.invariant.fit) ∙ l.invariant.there;
      named = slice_get_within names c.in_ok-label.label _ c.in_ok-label.ensures.number;
    }

pub loop-text-preserved : goal.loop-text-preserved
loop-text-preserved g c =
    let seen = g.T.Tables.seen in
    let l = c.loop-text in
    let names = c.intern.new.self in
    let keeps = c.intern.ensures.keeps in
    let distinct = c.in_ok-label.ensures.distinct in
    let was = l.invariant in
    let set = c.add_label.ensures in
    let id = c.args.id.0 in
    let now = graph_of_store seen l.self l.shared in
    let same = renamed_graph seen l.self l.shared names keeps was.fit in
    let texts = c.args.labels.now.items in
    let made = c.in_ok-add_label.ensures.ok ∙ ap (change_node (λ (e : Node). record e { labels = put_texts (text_of names c.in_ok-label.label ∷ []) e.labels }) id) same ∙ ap (λ t. change_node (λ (e : Node). record e { labels = put_texts (t ∷ []) e.labels }) id now) (text_is names c.in_ok-label.label _ c.in_ok-label.ensures.number) in
    record {
      graph = ap (change_node (λ (e : Node). record e { labels = put_texts (texts_of (drop (l.text-index + 1) texts)) e.labels }) id) made ∙ node_twice id now _ _ ∙ turn texts c.deref-text-items.result.now l.text-index _ id now c.deref-text-items.ensures.value c.loop-text-test.true ∙ was.graph;
      there = ap (λ (x : Graph). has_node x id) made ∙ node_there id now _ was.there;
      marks = marks_then seen c.args.self.now l.self c.add_label.new.self c.args.shared.now l.shared c.add_label.new.shared was.marks
          (marks_then seen l.self l.self c.add_label.new.self l.shared (renamed seen l.self l.shared names keeps was.fit) c.add_label.new.shared (renamed_marks seen l.self l.shared names keeps was.fit) set.marks);
      fit = set.fit;
      keeps = kept_then c.args.self.now l.self c.add_label.new.self c.args.shared.now l.shared c.add_label.new.shared was.keeps
          (kept_then l.self l.self c.add_label.new.self l.shared (renamed seen l.self l.shared names keeps was.fit) c.add_label.new.shared (renamed_keeps seen l.self l.shared names keeps was.fit distinct) set.keeps);
    }

pub returns-in_err-add_label : goal.returns-in_err-add_label
returns-in_err-add_label g c =
    let seen = g.T.Tables.seen in
    let l = c.loop-text in
    let names = c.intern.new.self in
    let keeps = c.intern.ensures.keeps in
    let distinct = c.in_ok-label.ensures.distinct in
    let was = l.invariant in
    let set = c.add_label.ensures in
    record {
      ok = IfOk-from_err c.from_residual-in_err-add_label.result _ c.from_residual-in_err-add_label.ensures.0;
      marks = marks_then seen c.args.self.now l.self c.add_label.new.self c.args.shared.now l.shared c.add_label.new.shared was.marks
          (marks_then seen l.self l.self c.add_label.new.self l.shared (renamed seen l.self l.shared names keeps was.fit) c.add_label.new.shared (renamed_marks seen l.self l.shared names keeps was.fit) set.marks);
      fit = set.fit;
      keeps = kept_then c.args.self.now l.self c.add_label.new.self c.args.shared.now l.shared c.add_label.new.shared was.keeps
          (kept_then l.self l.self c.add_label.new.self l.shared (renamed seen l.self l.shared names keeps was.fit) c.add_label.new.shared (renamed_keeps seen l.self l.shared names keeps was.fit distinct) set.keeps);
    }

pub returns-in_err-label : goal.returns-in_err-label
returns-in_err-label g c =
    let seen = g.T.Tables.seen in
    let l = c.loop-text in
    let names = c.intern.new.self in
    let keeps = c.intern.ensures.keeps in
    let was = l.invariant in
    let distinct = subst AreDistinct (sym c.in_err-label.ensures.err) was.fit.well.held.distinct in
    record {
      ok = IfOk-from_err c.from_residual.result _ c.from_residual.ensures.0;
      marks = marks_then seen c.args.self.now l.self l.self c.args.shared.now l.shared _ was.marks (renamed_marks seen l.self l.shared names keeps was.fit);
      fit = renamed_fit seen l.self l.shared names keeps was.fit distinct;
      keeps = kept_then c.args.self.now l.self l.self c.args.shared.now l.shared _ was.keeps (renamed_keeps seen l.self l.shared names keeps was.fit distinct);
    }

pub returns : goal.returns
returns g c =
    let l = c.loop-text in
    let was = l.invariant in
    let id = c.args.id.0 in
    let s = state_of g.T.Tables.seen l.self l.shared in
    let now = graph_of_store g.T.Tables.seen l.self l.shared in
    let texts = c.args.labels.now.items in
    record {
      ok = sym (node_unchanged l.shared.names (live s) s.next.node s.next.rel id (λ (e : Node). record e { labels = put_texts (texts_of []) e.labels }) (λ e. refl)) ∙ sym (at_drop_all (λ ts. change_node (λ (e : Node). record e { labels = put_texts (texts_of ts) e.labels }) id now) texts l.text-index (subst (λ ts. length ts ≤ l.text-index) c.deref-text-items.ensures.value c.loop-text-test.false)) ∙ was.graph;
      marks = was.marks;
      fit = was.fit;
      keeps = was.keeps;
    }
