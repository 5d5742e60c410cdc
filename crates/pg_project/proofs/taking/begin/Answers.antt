use Rattle.std.proofs.Common.{◌≡◌, ◌+◌, ◌++◌, ◌∷◌, ◌≤◌, [], drop, length, sym, ap, subst, ◌∙◌}
use Rattle.std.proofs.lemmas.List.{append_assoc, append-nil}
use Rattle.std.proofs.lemmas.Result.{IfOk-from_err}
use Rattle.pg_project.proofs.Turns.{here, map_behind, none_left}
use Rattle.pg_project.specs.Kept.{begun}
use Rattle.pg_project.specs.ReadyItems.{aggregates_view}
use Rattle.pg_project.specs.Views.{taken_view, takens_view}
use Rattle.pg_project.proofs.taking.begin.Goals as goal

pub returns-in_err-one : goal.returns-in_err-one
returns-in_err-one c = λ names. IfOk-from_err c.from_residual.result _ c.from_residual.ensures.0

pub returns-in_err-push : goal.returns-in_err-push
returns-in_err-push c = λ names. IfOk-from_err c.from_residual-in_err-push.result _ c.from_residual-in_err-push.ensures.0

pub loop-aggregate-preserved : goal.loop-aggregate-preserved
loop-aggregate-preserved c = λ names.
    let l = c.loop-aggregate in
    let found = takens_view l.taken.items in
    let later = drop (l.aggregate-index + 1) c.args.aggregates.now.items in
    let rest = begun (aggregates_view names later) in
    ap (λ ts. takens_view ts ++ rest) c.in_ok-push.ensures.items
    ∙ ap (λ ts. ts ++ rest) (map_behind taken_view l.taken.items c.in_ok-one.one)
    ∙ append_assoc found (taken_view c.in_ok-one.one ∷ []) rest
    ∙ (λ i. found ++ c.in_ok-one.ensures i ∷ rest)
    ∙ ap (λ zs. found ++ begun (aggregates_view names zs)) (sym (subst (λ zs. drop l.aggregate-index zs ≡ c.aggregate-item.result ∷ drop (l.aggregate-index + 1) zs) c.deref-aggregate-items.ensures.value (here c.deref-aggregate-items.result.now l.aggregate-index c.aggregate-item.result c.loop-aggregate-test.true c.aggregate-item.is)))
    ∙ l.invariant names

pub returns : goal.returns
returns c = λ names.
    let l = c.loop-aggregate in
    let found = takens_view l.taken.items in
    let none = none_left c.args.aggregates.now.items l.aggregate-index (subst (λ zs. length zs ≤ l.aggregate-index) c.deref-aggregate-items.ensures.value c.loop-aggregate-test.false) in
    sym (append-nil found) ∙ ap (λ zs. found ++ begun (aggregates_view names zs)) (sym none) ∙ l.invariant names
