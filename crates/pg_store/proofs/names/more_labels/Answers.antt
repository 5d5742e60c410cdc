use Rattle.std.proofs.Common.{◌≡◌, ◌<◌, ◌≤◌, ◌+◌, ℕ, List, [], ◌∷◌, Bor, drop, get_or, length, refl, sym, ap, subst, ◌∙◌}
use Rattle.std.proofs.lemmas.List.{at_drop_more, at_drop_all}
use Rattle.std.proofs.lemmas.Result.{IfOk-from_err}
use Rattle.pg_graph.specs.Refinement.{label_texts}
use Rattle.pg_meaning.specs.Names.{put_texts}
use Rattle.pg_store.proofs.names.more_labels.Goals as goal
use Rattle.pg_store.specs.Stores.{texts_of}

-- the text of this turn, put before those to come
turn : (texts items : List (Bor (List ℕ))) (i : ℕ) (d : Bor (List ℕ)) (labels : List (List ℕ)) → items ≡ texts → i < length items
    → put_texts (texts_of (drop (i + 1) texts)) (put_texts ((get_or items i d).now ∷ []) labels) ≡ put_texts (texts_of (drop i texts)) labels
turn texts items i d labels same within =
    ap (λ ts. put_texts (texts_of (drop (i + 1) ts)) (put_texts ((get_or items i d).now ∷ []) labels)) (sym same)
    ∙ sym (at_drop_more (λ ts. put_texts (texts_of ts) labels) items i d within)
    ∙ ap (λ ts. put_texts (texts_of (drop i ts)) labels) same

pub loop-text-init : goal.loop-text-init
loop-text-init g c = record { labels = refl; named = c.requires.named; keeps = λ number text h. h; distinct = c.requires.distinct }

pub loop-text-preserved : goal.loop-text-preserved
loop-text-preserved g c =
    let l = c.loop-text in
    let put = c.insert_text.ensures in
    let texts = c.args.texts.now.items in
    record {
      labels = ap (put_texts (texts_of (drop (l.text-index + 1) texts))) c.in_ok-insert_text.ensures.ok
          ∙ turn texts c.deref-text-items.result.now l.text-index _ (label_texts l.names l.labels) c.deref-text-items.ensures.value c.loop-text-test.true
          ∙ l.invariant.labels;
      named = put.named;
      keeps = λ number text h. put.keeps number text (l.invariant.keeps number text h);
      distinct = put.distinct l.invariant.distinct;
    }

pub returns-in_err-insert_text : goal.returns-in_err-insert_text
returns-in_err-insert_text g c = record {
  labels = IfOk-from_err c.from_residual.result _ c.from_residual.ensures.0;
  named = IfOk-from_err c.from_residual.result _ c.from_residual.ensures.0;
  keeps = λ number text h. c.insert_text.ensures.keeps number text (c.loop-text.invariant.keeps number text h);
  distinct = c.insert_text.ensures.distinct c.loop-text.invariant.distinct;
}

pub returns : goal.returns
returns g c =
    let l = c.loop-text in
    record {
      labels = sym (at_drop_all (λ ts. put_texts (texts_of ts) (label_texts l.names l.labels)) c.args.texts.now.items l.text-index (subst (λ ts. length ts ≤ l.text-index) c.deref-text-items.ensures.value c.loop-text-test.false))
          ∙ l.invariant.labels;
      named = l.invariant.named;
      keeps = l.invariant.keeps;
      distinct = l.invariant.distinct;
    }
