use Rattle.std.proofs.Common.{◌≡◌, ◌<◌, ◌≤◌, ◌+◌, ℕ, List, [], ◌∷◌, Bor, drop, get_or, length, refl, sym, ap, subst, ◌∙◌}
use Rattle.std.proofs.lemmas.List.{at_drop_more, at_drop_all}
use Rattle.pg_graph.specs.Refinement.{label_texts}
use Rattle.pg_store.proofs.names.less_labels.Goals as goal
use Rattle.pg_store.specs.Stores.{texts_of, without_texts}

-- the text of this turn, taken out before those to come
turn : (texts items : List (Bor (List ℕ))) (i : ℕ) (d : Bor (List ℕ)) (labels : List (List ℕ)) → items ≡ texts → i < length items
    → without_texts (texts_of (drop (i + 1) texts)) (without_texts ((get_or items i d).now ∷ []) labels) ≡ without_texts (texts_of (drop i texts)) labels
turn texts items i d labels same within =
    ap (λ ts. without_texts (texts_of (drop (i + 1) ts)) (without_texts ((get_or items i d).now ∷ []) labels)) (sym same)
    ∙ sym (at_drop_more (λ ts. without_texts (texts_of ts) labels) items i d within)
    ∙ ap (λ ts. without_texts (texts_of (drop i ts)) labels) same

pub loop-text-init : goal.loop-text-init
loop-text-init g c = record { labels = refl; named = c.requires }

pub loop-text-preserved : goal.loop-text-preserved
loop-text-preserved g c =
    let l = c.loop-text in
    let texts = c.args.texts.now.items in
    record {
      labels = ap (without_texts (texts_of (drop (l.text-index + 1) texts))) c.remove_text.ensures.texts
          ∙ turn texts c.deref-text-items.result.now l.text-index _ (label_texts c.args.names.now l.labels) c.deref-text-items.ensures.value c.loop-text-test.true
          ∙ l.invariant.labels;
      named = c.remove_text.ensures.named;
    }

pub returns-clause-labels : goal.returns-clause-labels
returns-clause-labels g c =
    let l = c.loop-text in
    sym (at_drop_all (λ ts. without_texts (texts_of ts) (label_texts c.args.names.now l.labels)) c.args.texts.now.items l.text-index (subst (λ ts. length ts ≤ l.text-index) c.deref-text-items.ensures.value c.loop-text-test.false))
    ∙ l.invariant.labels
