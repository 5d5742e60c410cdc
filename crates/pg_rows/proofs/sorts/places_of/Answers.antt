use Rattle.std.proofs.Common.{◌≡◌, ◌<◌, ◌+◌, ℕ, List, ◌++◌, ◌∷◌, [], length, map, take, get_or, take-suc, add-one, sym, ap, ◌∙◌}
use Rattle.pg_rows.proofs.Tabled.{map_append, all_taken}
use Rattle.pg_rows.proofs.sorts.places_of.Goals as goal

map_next : {X Y : Type 0} (f : X → Y) (xs : List X) (i : ℕ) (x : X) → i < length xs → x ≡ get_or xs i x → map f (take i xs) ++ f x ∷ [] ≡ map f (take (i + 1) xs)
map_next f xs i x inside e =
    ap (λ y. map f (take i xs) ++ f y ∷ []) e ∙ sym (map_append f (take i xs) (get_or xs i x ∷ []))
    ∙ ap (map f) (sym (take-suc xs i x inside)) ∙ ap (λ n. map f (take n xs)) (sym (add-one i))

pub loop-entry-init : goal.loop-entry-init
loop-entry-init c = c.in_ok-places.ensures.items

pub loop-entry-preserved : goal.loop-entry-preserved
loop-entry-preserved c =
    let l = c.loop-entry in
    let entry = c.entry-item.result in
    c.in_ok-push.ensures.items
    ∙ ap (λ ns. ns ++ entry.1 ∷ []) l.invariant
    ∙ map_next (λ e. e.1) c.deref-entry-items.result.now l.entry-index entry c.loop-entry-test.true c.entry-item.is

pub returns : goal.returns
returns c =
    c.loop-entry.invariant
    ∙ ap (map (λ e. e.1)) (sym (all_taken c.loop-entry.entry-index c.deref-entry-items.result.now c.loop-entry-test.false) ∙ c.deref-entry-items.ensures.value)
