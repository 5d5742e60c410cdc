use Rattle.std.proofs.Common.{◌≡◌, ◌≤◌, ◌==◌, ◌+◌, ◌∷◌, ℕ, List, Option, Some, None, Result, Ok, true, false, length, drop, refl, sym, ap, ◌∙◌}
use Rattle.std.proofs.lemmas.List.{at_drop_more, at_drop_all}
use Rattle.std.specs.List.{list_any}
use Rattle.pg_graph.specs.Stored.{has_number}
use Rattle.pg_graph.specs.declared.records.NodeRecord.{NodeRecord}
use Rattle.std.specs.Result.{is_ok}
use Rattle.pg_store.proofs.CoverLemmas.{Has, grows_on}
use Rattle.pg_store.proofs.GainLemmas.{all_gains, gains_none, gains_notes, gains_then}
use Rattle.pg_store.proofs.NoteLemmas.{pushed_noted, pushed_stay}
use Rattle.pg_store.specs.declared.wanted.Place.TheVariants as place
use Rattle.pg_store.proofs.SetLemmas.{all_grows, all_there, labels_on}
use Rattle.pg_store.proofs.sets.Sets.insert_labels.Goals as goal
use Rattle.pg_store.specs.Covers.{every, with_label, label_set_key, has_in}

-- with no label to come, and among all
numbered : (has : Has) (id : ℕ) (items labels : List ℕ) (i : ℕ) → items ≡ labels → length items ≤ i → has every id ≡ true
    → ((m : ℕ) → list_any (λ n. n == m) items ≡ true → list_any (λ n. n == m) (drop i items) ≡ false → has (with_label m) id ≡ true)
    → (n : NodeRecord) (k : Option ℕ) → n.labels ≡ labels → has_number k n ≡ true → has (label_set_key k) id ≡ true
numbered has id items labels i same end all each n None is number = all
numbered has id items labels i same end all each n (Some m) is number =
    each m (ap (list_any (λ n. n == m)) (same ∙ sym is) ∙ number) (at_drop_all (λ xs. list_any (λ n. n == m) xs) items i end)

pub loop-label-preserved : goal.loop-label-preserved
loop-label-preserved c =
    let was = c.loop-label.invariant in
    let items = c.as_slice-label-items.result.now in
    let i = c.loop-label.label-index in
    let more = drop (i + 1) items in
    let grows = c.insert_label.ensures.grown in
    record {
      grown = grows_on (has_in c.args.self.now) (has_in c.loop-label.self) (has_in c.insert_label.new.self) was.grown grows;
      gains = gains_then c.args.self.now c.loop-label.self c.insert_label.new.self was.gains c.insert_label.ensures.gains;
      labels = labels_on (has_in c.loop-label.self) (has_in c.insert_label.new.self) c.args.id c.label-item.result items more grows c.in_ok-insert_label.ensures.ok
          (λ m among none. was.labels m among (at_drop_more (λ xs. list_any (λ n. n == m) xs) items i c.label-item.result c.loop-label-test.true ∙ sym (ap (λ x. list_any (λ n. n == m) (x ∷ more)) c.label-item.is) ∙ none));
      items = was.items;
    }

pub returns-then-contains : goal.returns-then-contains
returns-then-contains c =
    let l = c.loop-label in
    record {
      grown = l.invariant.grown;
      gains = l.invariant.gains;
      ok = numbered (has_in l.self) c.args.id c.as_slice-label-items.result.now c.args.labels.now l.label-index l.invariant.items c.loop-label-test.false
          (sym c.contains.ensures ∙ c.if-contains.true) l.invariant.labels;
    }

pub returns : goal.returns
returns c =
    let l = c.loop-label in
    let new = record l.self { all = c.insert.new.self; stale_ids = c.push.new.self } in
    let grows = all_grows l.self new c.args.id refl refl c.insert.result c.insert.ensures.ok c.insert.ensures.err in
    let done : Result (Unit {0}) (Unit {0}) = Ok tt in
    let added = all_there l.self new c.args.id refl refl done in
    record {
      grown = grows_on (has_in c.args.self.now) (has_in l.self) (has_in new) l.invariant.grown grows;
      gains = gains_then c.args.self.now l.self new l.invariant.gains
          (all_gains l.self new c.args.id (pushed_stay (is_ok c.push.result) l.self.stale_ids.items c.push.new.self.items _ c.push.ensures.items) refl refl c.insert.result c.insert.ensures.ok c.insert.ensures.err
          (pushed_noted l.self.stale_ids.items c.push.new.self.items place.All c.args.id c.in_ok-push.ensures.items every refl));
      ok = numbered (has_in new) c.args.id c.as_slice-label-items.result.now c.args.labels.now l.label-index l.invariant.items c.loop-label-test.false
          (added c.in_ok-insert.ensures.ok)
          (λ m among none. grows (with_label m) c.args.id (l.invariant.labels m among none));
    }

pub loop-label-init : goal.loop-label-init
loop-label-init c = record {
  grown = λ k i h. h;
  gains = gains_none c.args.self.now;
  labels = λ m among none. absurd (cc (among, none));
  items = c.as_slice-label-items.ensures.names;
}

pub returns-in_err-insert_label-clause-gains : goal.returns-in_err-insert_label-clause-gains
returns-in_err-insert_label-clause-gains c = gains_then c.args.self.now c.loop-label.self c.insert_label.new.self c.loop-label.invariant.gains c.insert_label.ensures.gains

pub returns-in_err-push-clause-gains : goal.returns-in_err-push-clause-gains
returns-in_err-push-clause-gains c =
    let l = c.loop-label.self in
    gains_then c.args.self.now l (record l { stale_ids = c.push.new.self }) c.loop-label.invariant.gains
    (gains_notes l (record l { stale_ids = c.push.new.self }) (refl, refl, refl) (pushed_stay (is_ok c.push.result) l.stale_ids.items c.push.new.self.items _ c.push.ensures.items))
