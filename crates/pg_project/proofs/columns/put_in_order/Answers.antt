use Rattle.std.proofs.Common.{◌≡◌, ◌∷◌, [], sym, ap, subst, ◌∙◌}
use Rattle.std.proofs.lemmas.List.{map-append}
use Rattle.std.specs.BTreeSet.{insert_key}
use Rattle.std.specs.List.{insert}
use Rattle.indexmap.proofs.SetLemmas.{map-insert}
use Rattle.pg_meaning.specs.Order.{text_order}
use Rattle.pg_project.proofs.ByteOrder.{all_below, put_last}
use Rattle.pg_project.specs.Columns.{texts_of}
use Rattle.pg_rows.specs.Rising.{IsLastBelow}
use Rattle.pg_project.proofs.columns.put_in_order.Goals as goal

pub returns-then-are_below : goal.returns-then-are_below
returns-then-are_below c =
    let items = c.args.texts.now.items in
    let text = c.args.text in
    let last : IsLastBelow text.now (texts_of items) = subst (λ xs. IsLastBelow text.now (texts_of xs)) c.deref.ensures.value (c.are_below.ensures c.if-are_below.true) in
    ap texts_of c.in_ok-push.ensures.items
    ∙ map-append (λ x. x.now) items (text ∷ [])
    ∙ sym (put_last text.now (texts_of items) (all_below text.now (texts_of items) c.requires last))

pub returns-in_ok-insert : goal.returns-in_ok-insert
returns-in_ok-insert c =
    let items = c.args.texts.now.items in
    let text = c.args.text in
    let put : insert_key text_order (texts_of items) text.now ≡ insert (texts_of items) c.in-Some.at text.now =
    subst (λ xs. insert_key text_order (texts_of xs) text.now ≡ insert (texts_of xs) c.in-Some.at text.now) c.deref-2.ensures.value c.in-Some.ensures.some in
    ap texts_of c.in_ok-insert.ensures.items
    ∙ map-insert (λ x. x.now) items c.in-Some.at text
    ∙ sym put
