use Rattle.std.proofs.Common.{◌≡◌, ◌<◌, ◌+◌, ℕ, List, [], ◌∷◌, ◌++◌, map, length, take, get_or, take-suc, take_all, add-one, refl, sym, ap, ◌∙◌}
use Rattle.std.proofs.lemmas.Result.{IfOk-from_err}
use Rattle.pg_meaning.specs.Value.{values_of}
use Rattle.pg_value_core.specs.View.{view}
use Rattle.pg_value_core.specs.declared.value.Value.{Value}
use Rattle.pg_value_core.proofs.copy.copy_items.Goals as goal

map_push : (cs : List Value) (v : Value) → map view (cs ++ v ∷ []) ≡ map view cs ++ view v ∷ []
map_push [] v = refl
map_push (c ∷ cs) v = ap (λ rest. view c ∷ rest) (map_push cs v)

-- one copy more, behind those of what came before
copied_next : (cs xs : List Value) (i : ℕ) (x v : Value) → i < length xs → x ≡ get_or xs i x → view v ≡ view x → map view cs ≡ map view (take i xs) → map view (cs ++ v ∷ []) ≡ map view (take (i + 1) xs)
copied_next cs xs i x v inside e same so_far =
    map_push cs v ∙ ap (λ ys. ys ++ view v ∷ []) so_far ∙ ap (λ y. map view (take i xs) ++ y ∷ []) (same ∙ ap view e)
    ∙ sym (map_push (take i xs) (get_or xs i x)) ∙ ap (map view) (sym (take-suc xs i x inside)) ∙ ap (λ n. map view (take n xs)) (sym (add-one i))

pub loop-item-init : goal.loop-item-init
loop-item-init c = ap (map view) c.in_ok-copies.ensures.items

pub loop-item-preserved : goal.loop-item-preserved
loop-item-preserved c =
    let l = c.loop-item in
    ap (map view) c.in_ok-push.ensures.items
    ∙ copied_next l.copies.items c.deref-item-items.result.now l.item-index c.item-item.result c.in_ok-copy.field-0 c.loop-item-test.true c.item-item.is c.in_ok-copy.ensures l.invariant

pub returns : goal.returns
returns c =
    let l = c.loop-item in
    ap values_of (l.invariant ∙ ap (map view) (take_all l.item-index c.deref-item-items.result.now c.loop-item-test.false ∙ c.deref-item-items.ensures.value))

pub returns-in_err-copies : goal.returns-in_err-copies
returns-in_err-copies c = IfOk-from_err c.from_residual.result _ c.from_residual.ensures.0

pub returns-in_err-copy : goal.returns-in_err-copy
returns-in_err-copy c = IfOk-from_err c.from_residual-in_err-copy.result _ c.from_residual-in_err-copy.ensures.0

pub returns-in_err-push : goal.returns-in_err-push
returns-in_err-push c = IfOk-from_err c.from_residual-in_err-push.result _ c.from_residual-in_err-push.ensures.0
