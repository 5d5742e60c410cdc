use Rattle.std.proofs.Common.{◌+◌, List, ℕ, [], ◌∷◌, drop, sym, ap, ◌++◌, refl}
use Rattle.pg_meaning.specs.Patterns.{texts_of as meant_texts}
use Rattle.pg_store.specs.Stores.{texts_of}
use Rattle.pg_syntax_tree.specs.View.{names_view}
use Rattle.pg_write_make.proofs.TurnLemmas.{one_further, seen_pushed, all_made}
use Rattle.std.proofs.lemmas.Result.{IfOk-from_err}
use Rattle.pg_write_make.proofs.texts.label_texts.Goals as goal

pub loop-label-preserved : goal.loop-label-preserved
loop-label-preserved c =
    let ls = c.args.labels.now.items in
    let text = c.as_str.result in
    one_further c.deref-label-items.result.now ls c.loop-label.label-index c.label-item.result c.deref-label-items.ensures.value c.label-item.is c.loop-label-test.true
    (λ ys. meant_texts (names_view ys)) (meant_texts (names_view ls)) (texts_of c.loop-label.texts.items) (texts_of c.push.new.self.items) (text.now ∷ [])
    (ap (λ (t : List ℕ). t ∷ meant_texts (names_view (drop (c.loop-label.label-index + 1) ls))) (sym c.as_str.ensures.value))
    (seen_pushed (λ t. t.now) c.loop-label.texts.items c.push.new.self.items text c.in_ok-push.ensures.items)
    c.loop-label.invariant

pub returns-in_err-texts : goal.returns-in_err-texts
returns-in_err-texts c = IfOk-from_err c.from_residual.result _ c.from_residual.ensures.0

pub loop-label-init : goal.loop-label-init
loop-label-init c = ap (λ ts. texts_of ts ++ meant_texts (names_view c.args.labels.now.items)) (sym c.in_ok-texts.ensures.items)

pub returns-in_err-push : goal.returns-in_err-push
returns-in_err-push c = IfOk-from_err c.from_residual-in_err-push.result _ c.from_residual-in_err-push.ensures.0

pub returns : goal.returns
returns c =
    let ls = c.args.labels.now.items in
    all_made c.deref-label-items.result.now ls c.loop-label.label-index c.deref-label-items.ensures.value c.loop-label-test.false (λ ys. meant_texts (names_view ys)) (texts_of c.loop-label.texts.items) (meant_texts (names_view ls)) refl (sym c.loop-label.invariant)
