use Rattle.std.proofs.Common.{◌==◌, false, sym, ap, subst, ◌∙◌}
use Rattle.std.specs.FinMap.{FinMap}
use Rattle.std.specs.Ordering.{nat_cmp}
use Rattle.std.specs.Prelude.{◌&&◌}
use Rattle.pg_graph.specs.declared.records.NodeRecord.{NodeRecord}
use Rattle.pg_store.proofs.NoteLemmas.{and_left, and_right, or_either, same_number}
use Rattle.pg_store.proofs.Noting.{none_gone_there}
use Rattle.std.proofs.lemmas.Result.{IfOk-from_err}
use Rattle.std.specs.Option.{option_map_or}
use Rattle.pg_graph.specs.Removed.{Ids, has_id}
use Rattle.pg_index.specs.Properties.{finds, is_found_by}
use Rattle.pg_store.proofs.CoverLemmas.{covers_now}
use Rattle.pg_store.proofs.Filling.{IsFilled, filled_first, filled_on}
use Rattle.pg_store.proofs.store.Store.filled_index.Goals as goal
use Rattle.pg_store.specs.Covers.{with_label, has_in, passes}
use Rattle.pg_store.specs.Stores.{state_of}

pub loop-id-init : goal.loop-id-init
loop-id-init g c =
    let store = c.args.self.now in
    let s = state_of g.T.Tables.seen store c.args.shared.now in
    record {
      label = c.new-index.ensures.label;
      key = c.new-index.ensures.key;
      only = λ v i h. let none = c.new-index.ensures.empty v i in absurd (cc (h, none));
      filled = subst (IsFilled s.content.nodes c.args.label c.args.key c.new-index.result) (sym c.ids-ids.ensures)
          (filled_first s.content.nodes c.args.label c.args.key c.new-index.result c.labelled.result.now
          (λ i n at number. ap (λ (ids : Ids). has_id ids i) c.labelled.ensures ∙ covers_now (has_in store.sets) store.journal.items s c.requires.fit.covered (with_label c.args.label) i n at number));
    }

pub loop-id-preserved : goal.loop-id-preserved
loop-id-preserved g c =
    let s = state_of g.T.Tables.seen c.args.self.now c.args.shared.now in
    let was = c.loop-id.invariant in
    let index = c.loop-id.index in
    record {
      label = was.label;
      key = was.key;
      only = was.only;
      filled = filled_on s.content.nodes c.args.label c.args.key index index c.in-Some.id c.next.new.self (λ v i h. h)
          (λ n v at found. let none = c.in_default-node.ensures in absurd (cc (at, none)))
          (subst (IsFilled s.content.nodes c.args.label c.args.key index) c.in-Some.ensures.some was.filled);
    }

pub loop-id-preserved-in-Continue-1 : goal.loop-id-preserved-in-Continue-1
loop-id-preserved-in-Continue-1 g c =
    let s = state_of g.T.Tables.seen c.args.self.now c.args.shared.now in
    let was = c.loop-id.invariant in
    let index = c.loop-id.index in
    record {
      label = c.insert_id.ensures.label ∙ was.label;
      key = c.insert_id.ensures.key ∙ was.key;
      only = λ v i h.
          or_either (finds index v i) (is_found_by index.label index.key v c.in-Some-node.node.now && i == c.in-Some.id) (passes (is_found_by c.args.label c.args.key v) s.content.nodes i) (was.only v i)
          (λ g.
          ap (passes (is_found_by c.args.label c.args.key v) s.content.nodes) (same_number i c.in-Some.id (and_right (is_found_by index.label index.key v c.in-Some-node.node.now) (i == c.in-Some.id) g))
          ∙ ap (λ o. option_map_or (is_found_by c.args.label c.args.key v) o false) (sym c.in-Some-node.ensures)
          ∙ ap (λ l. is_found_by l c.args.key v c.in-Some-node.node.now) (sym was.label) ∙ ap (λ k. is_found_by index.label k v c.in-Some-node.node.now) (sym was.key)
          ∙ and_left (is_found_by index.label index.key v c.in-Some-node.node.now) (i == c.in-Some.id) g)
          (c.insert_id.ensures.come v i h);
      filled = filled_on s.content.nodes c.args.label c.args.key index c.insert_id.new.self c.in-Some.id c.next.new.self c.insert_id.ensures.grown
          (λ n v at found.
          c.in_ok-insert_id.ensures.ok v
          (ap (λ o. option_map_or (is_found_by index.label index.key v) o false) (c.in-Some-node.ensures ∙ at)
          ∙ ap (λ l. is_found_by l index.key v n) was.label ∙ ap (λ k. is_found_by c.args.label k v n) was.key ∙ found))
          (subst (IsFilled s.content.nodes c.args.label c.args.key index) c.in-Some.ensures.some was.filled);
    }

pub returns-in_err-insert_id : goal.returns-in_err-insert_id
returns-in_err-insert_id g c =
    let failed = c.from_residual in
    record {
      label = IfOk-from_err failed.result _ failed.ensures.0;
      key = IfOk-from_err failed.result _ failed.ensures.0;
      all = IfOk-from_err failed.result _ failed.ensures.0;
      only = IfOk-from_err failed.result _ failed.ensures.0;
    }

pub returns-clause-label : goal.returns-clause-label
returns-clause-label g c = c.loop-id.invariant.label

pub returns-clause-key : goal.returns-clause-key
returns-clause-key g c = c.loop-id.invariant.key

pub returns-clause-all : goal.returns-clause-all
returns-clause-all g c =
    let s = state_of g.T.Tables.seen c.args.self.now c.args.shared.now in
    subst (IsFilled s.content.nodes c.args.label c.args.key c.loop-id.index) c.in_default.ensures.none c.loop-id.invariant.filled

pub returns-clause-only : goal.returns-clause-only
returns-clause-only g c = λ i v h.
    let s = state_of g.T.Tables.seen c.args.self.now c.args.shared.now in
    ap (λ (m : FinMap nat_cmp NodeRecord). passes (is_found_by c.args.label c.args.key v) m i) (none_gone_there s c.requires.none_gone) ∙ c.loop-id.invariant.only v i h
