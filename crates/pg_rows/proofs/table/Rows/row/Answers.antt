use Rattle.std.proofs.Common.{◌≡◌, ℕ, ◌+◌, ◌*◌, ◌-◌, ◌<◌, ◌≤◌, map, length, take, drop, Some, rules, arith, sym, ap, subst, ◌∙◌}
use Rattle.std.proofs.lemmas.List.{take-map, drop-map}
use Rattle.pg_value_core.specs.View.{view}
use Rattle.pg_rows.proofs.Tabled.{length_rows, rows_get, row_within}
use Rattle.pg_rows.proofs.table.Rows.row.Goals as goal

pub overflow_mul-start : goal.overflow_mul-start
overflow_mul-start c =
    let r = c.args.self.now in
    let below : c.args.at < r.count = subst (λ n. c.args.at < n) (length_rows r.width r.count (map view r.values.items)) c.requires in
    let fits : c.args.at * r.width + r.width ≤ length r.values.items = subst (λ n. c.args.at * r.width + r.width ≤ n) (sym r.sized) (row_within c.args.at r.count r.width below) in
    search rules

pub overflow_add-result : goal.overflow_add-result
overflow_add-result c =
    let r = c.args.self.now in
    let below : c.args.at < r.count = subst (λ n. c.args.at < n) (length_rows r.width r.count (map view r.values.items)) c.requires in
    let fits : c.args.at * r.width + r.width ≤ length r.values.items = subst (λ n. c.args.at * r.width + r.width ≤ n) (sym r.sized) (row_within c.args.at r.count r.width below) in
    search rules

pub offset_bounds-deref-start : goal.offset_bounds-deref-start
offset_bounds-deref-start c =
    let r = c.args.self.now in
    let below : c.args.at < r.count = subst (λ n. c.args.at < n) (length_rows r.width r.count (map view r.values.items)) c.requires in
    let fits : c.args.at * r.width + r.width ≤ length r.values.items = subst (λ n. c.args.at * r.width + r.width ≤ n) (sym r.sized) (row_within c.args.at r.count r.width below) in
    search rules

pub slice_bounds-result-end : goal.slice_bounds-result-end
slice_bounds-result-end c =
    let r = c.args.self.now in
    let below : c.args.at < r.count = subst (λ n. c.args.at < n) (length_rows r.width r.count (map view r.values.items)) c.requires in
    let fits : c.args.at * r.width + r.width ≤ length r.values.items = subst (λ n. c.args.at * r.width + r.width ≤ n) (sym r.sized) (row_within c.args.at r.count r.width below) in
    search rules

pub returns : goal.returns
returns c =
    let r = c.args.self.now in
    let below : c.args.at < r.count = subst (λ n. c.args.at < n) (length_rows r.width r.count (map view r.values.items)) c.requires in
    let start : ℕ = c.args.at * r.width in
    let wide : r.width ≡ start + r.width - start = omega arith in
    rows_get r.width r.count c.args.at (map view r.values.items) below
    ∙ ap (λ us. Some (take r.width us)) (drop-map view start r.values.items)
    ∙ ap Some (take-map view r.width (drop start r.values.items))
    ∙ (λ i. Some (map view (take (wide i) (drop start (sym c.deref.ensures.value i)))))
