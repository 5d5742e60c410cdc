use Rattle.std.proofs.Common.{◌≡◌, Result, Ok, Err, ℕ, sym, ap, ◌∙◌}
use Rattle.pg_graph.proofs.InOrder.{put_at, listed_put, put_is_shown}
use Rattle.pg_graph.proofs.in_order.put.Goals as goal
use Rattle.pg_graph.specs.InOrder.{listed_entries, place_in}
use Rattle.pg_value_core.specs.View.{view}

pub returns-in-Ok : goal.returns-in-Ok
returns-in-Ok c =
    let items = c.args.found.now.items in
    let at : Ok c.in-Ok.at ≡ place_in c.args.key.now items = c.in-Ok.ensures.place ∙ ap (place_in c.args.key.now) c.as_slice.ensures.value in
    ap (λ (r : Result ℕ ℕ). listed_entries (put_at r items (c.args.key, c.args.value))) at
    ∙ listed_put (c.args.key, c.args.value) items
    ∙ put_is_shown c.args.key.now (view c.args.value.now) (listed_entries items) (sym c.is_null.ensures ∙ c.if-is_null.false)

pub returns-in_ok-insert-in-Err : goal.returns-in_ok-insert-in-Err
returns-in_ok-insert-in-Err c =
    let items = c.args.found.now.items in
    let at : Err c.in-Err.at ≡ place_in c.args.key.now items = c.in-Err.ensures.place ∙ ap (place_in c.args.key.now) c.as_slice.ensures.value in
    ap listed_entries c.in_ok-insert-in-Err.ensures.items
    ∙ ap (λ (r : Result ℕ ℕ). listed_entries (put_at r items (c.args.key, c.args.value))) at
    ∙ listed_put (c.args.key, c.args.value) items
    ∙ put_is_shown c.args.key.now (view c.args.value.now) (listed_entries items) (sym c.is_null.ensures ∙ c.if-is_null.false)
