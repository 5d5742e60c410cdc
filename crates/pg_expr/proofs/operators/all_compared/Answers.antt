use Rattle.std.proofs.Common.{◌+◌, drop, refl, sym, ap, ◌∙◌}
use Rattle.std.proofs.lemmas.List.{drop_all}
use Rattle.std.proofs.lemmas.Result.{err_from_is_err_and}
use Rattle.pg_expr.proofs.Comparisons.{together, at_first, next_compared, next_fault, at_last}
use Rattle.pg_expr.specs.Contexts.{found_view, pairs_view}
use Rattle.pg_meaning.specs.Expressions.{all_compared, compared}
use Rattle.pg_scope.proofs.FirstLemmas.{item_here}
use Rattle.pg_value_core.specs.View.{view}
use Rattle.pg_expr.proofs.operators.all_compared.Goals as goal

pub loop-operator-init : goal.loop-operator-init
loop-operator-init c = rw c.look-left.ensures (at_first (all_compared (found_view c.args.first.now) (pairs_view c.deref-operator-items.result.now)))

pub loop-operator-preserved : goal.loop-operator-preserved
loop-operator-preserved c =
    let l = c.loop-operator in
    let p = c.loop-operator-item.result in
    let rest = drop (l.operator-index + 1) c.deref-operator-items.result.now in
    l.invariant
    ∙ ap (λ ys. together l.all (all_compared (view l.left.now) (pairs_view ys))) (item_here c.loop-operator-test.true c.loop-operator-item.is refl)
    ∙ next_compared l.all c.in_ok-next.next p.0 (view l.left.now) (found_view p.1) (pairs_view rest) (ap (λ w. compared p.0 (view l.left.now) w) (sym c.look-right.ensures) ∙ sym c.in_ok-next.ensures)
    ∙ ap (λ t. together t (all_compared (found_view p.1) (pairs_view rest))) (sym c.and-all.ensures)
    ∙ ap (λ w. together c.and-all.result (all_compared w (pairs_view rest))) (sym c.look-right.ensures)

pub returns-in_err-next : goal.returns-in_err-next
returns-in_err-next c =
    let l = c.loop-operator in
    let p = c.loop-operator-item.result in
    let rest = drop (l.operator-index + 1) c.deref-operator-items.result.now in
    let e = err_from_is_err_and c.from_residual.result c.from_residual.ensures.1 in
    rw (e.1, e.2)
    (sym
    (ap (λ ys. all_compared (found_view c.args.first.now) (pairs_view ys)) (sym c.deref-operator-items.ensures.value)
    ∙ l.invariant
    ∙ ap (λ ys. together l.all (all_compared (view l.left.now) (pairs_view ys))) (item_here c.loop-operator-test.true c.loop-operator-item.is refl)
    ∙ next_fault l.all p.0 (view l.left.now) (found_view p.1) (pairs_view rest) c.in_err-next.field-0.0 (ap (λ w. compared p.0 (view l.left.now) w) (sym c.look-right.ensures) ∙ sym c.in_err-next.ensures)))

pub returns : goal.returns
returns c =
    let l = c.loop-operator in
    sym
    (ap (λ ys. all_compared (found_view c.args.first.now) (pairs_view ys)) (sym c.deref-operator-items.ensures.value)
    ∙ l.invariant
    ∙ ap (λ ys. together l.all (all_compared (view l.left.now) (pairs_view ys))) (drop_all l.operator-index c.deref-operator-items.result.now c.loop-operator-test.false)
    ∙ at_last l.all)
