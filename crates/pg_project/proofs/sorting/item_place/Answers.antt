use Rattle.std.proofs.Common.{◌≡◌, ◌+◌, ◌∷◌, true, drop, Bool, sym, ap, ◌∙◌, arith}
use Rattle.std.proofs.lemmas.List.{drop_more, drop_all}
use Rattle.std.specs.List.{position_from}
use Rattle.std.specs.Prelude.{position}
use Rattle.pg_meaning.specs.Tree.{Expression}
use Rattle.pg_meaning.specs.Trees.{same_expression}
use Rattle.pg_project.proofs.SortPlaces.{from_zero, place_here}
use Rattle.pg_project.specs.Items.{expressions_view}
use Rattle.pg_syntax_tree.specs.View.{expression_view}
use Rattle.pg_project.proofs.sorting.item_place.Goals as goal

pub returns-then-same_expression : goal.returns-then-same_expression
returns-then-same_expression c =
    let l = c.loop-at in
    let items = c.deref-item-items.result.now in
    let t : Expression → Bool = λ x. same_expression x (expression_view c.args.key.now) in
    let item = c.item-item.result in
    let here : drop l.at items ≡ item ∷ drop (l.at + 1) items = drop_more items l.at item (omega arith) ∙ ap (λ y. y ∷ drop (l.at + 1) items) (sym c.item-item.is) in
    let passes : t (expression_view item.now) ≡ true = sym c.same_expression.ensures ∙ c.if-same_expression.true in
    sym (from_zero t (expressions_view items) ∙ l.invariant ∙ place_here t l.at (expressions_view (drop l.at items)) (expression_view item.now) (expressions_view (drop (l.at + 1) items)) (ap expressions_view here) passes)
    ∙ ap (λ es. position t (expressions_view es)) c.deref-item-items.ensures.value

pub returns : goal.returns
returns c =
    let l = c.loop-at in
    let items = c.deref-item-items.result.now in
    let t : Expression → Bool = λ x. same_expression x (expression_view c.args.key.now) in
    sym (from_zero t (expressions_view items) ∙ l.invariant ∙ ap (λ es. position_from t l.at (expressions_view es)) (drop_all l.at items (omega arith)))
    ∙ ap (λ es. position t (expressions_view es)) c.deref-item-items.ensures.value
