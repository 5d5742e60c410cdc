use Rattle.std.proofs.Common.{◌≡◌, ℕ, ◌+◌, ◌*◌, ◌<◌, ◌≤◌, ◌++◌, length, map, drop, get_or, refl, sym, ap, subst, ◌∙◌, rules, arith}
use Rattle.std.proofs.lemmas.List.{append-nil, drop_all, length-map}
use Rattle.pg_value_core.specs.View.{view}
use Rattle.pg_rows.proofs.Moved.{below_at, pick_step, seen_left, seen_moved, length_more}
use Rattle.pg_rows.proofs.Tabled.{length_rows, row_within}
use Rattle.pg_rows.specs.Tables.{rows_of, table, moved_rows, EachBelow}
use Rattle.pg_rows.proofs.table.Rows.pick.Goals as goal

none_yet : (w : ℕ) → 0 ≡ 0 * w
none_yet w = omega arith

level : (a b : ℕ) → a ≤ b → b ≤ a → a ≡ b
level a b h k = omega arith

pub overflow_mul-place : goal.overflow_mul-place
overflow_mul-place c =
    let old = c.args.self.now in
    let r = c.loop-place.self in
    let p : ℕ = get_or c.args.places.now c.loop-place.place-index 0 in
    let below : p < old.count = below_at old.count c.args.places.now c.loop-place.place-index (subst (λ n. EachBelow n c.args.places.now) (length_rows old.width old.count (map view old.values.items)) c.requires) c.loop-place-test.true in
    let here : p < r.count = subst (λ n. p < n) (sym c.loop-place.invariant.3) below in
    let fits : p * r.width + r.width ≤ length r.values.items = subst (λ n. p * r.width + r.width ≤ n) (sym r.sized) (row_within p r.count r.width here) in
    search rules

pub move_row-requires : goal.move_row-requires
move_row-requires c =
    let old = c.args.self.now in
    let r = c.loop-place.self in
    let p : ℕ = get_or c.args.places.now c.loop-place.place-index 0 in
    let below : p < old.count = below_at old.count c.args.places.now c.loop-place.place-index (subst (λ n. EachBelow n c.args.places.now) (length_rows old.width old.count (map view old.values.items)) c.requires) c.loop-place-test.true in
    let here : p < r.count = subst (λ n. p < n) (sym c.loop-place.invariant.3) below in
    subst (λ n. p * r.width + r.width ≤ n) (sym r.sized) (row_within p r.count r.width here)

pub loop-place-preserved : goal.loop-place-preserved
loop-place-preserved c =
    let old = c.args.self.now in
    let r = c.loop-place.self in
    let i : ℕ = c.loop-place.place-index in
    let ps = c.args.places.now in
    let p : ℕ = get_or ps i 0 in
    let ms = c.loop-place.moved.items in
    let vs = r.values.items in
    let below : p < old.count = below_at old.count ps i (subst (λ n. EachBelow n ps) (length_rows old.width old.count (map view old.values.items)) c.requires) c.loop-place-test.true in
    let here : p < r.count = subst (λ n. p < n) (sym c.loop-place.invariant.3) below in
    let fits : p * r.width + r.width ≤ length vs = subst (λ n. p * r.width + r.width ≤ n) (sym r.sized) (row_within p r.count r.width here) in (
      (λ j. rows_of r.width (i + 1) (map view (c.in_ok-move_row.ensures.moved j)) ++ moved_rows r.width (rows_of r.width r.count (map view (c.in_ok-move_row.ensures.left j))) (drop (i + 1) ps))
          ∙ (λ j. rows_of r.width (i + 1) (seen_moved (p * r.width) r.width ms vs j) ++ moved_rows r.width (rows_of r.width r.count (seen_left (p * r.width) (p * r.width + r.width) r.width vs j)) (drop (i + 1) ps))
          ∙ pick_step r.width r.count i (map view vs) (map view ms) ps here c.loop-place-test.true (length-map vs view ∙ r.sized) (length-map ms view ∙ c.loop-place.invariant.1)
          ∙ c.loop-place.invariant.0,
      ap length c.in_ok-move_row.ensures.moved ∙ length_more r.width i p vs ms fits c.loop-place.invariant.1,
      c.loop-place.invariant.2,
      c.loop-place.invariant.3,
    )

pub loop-place-init : goal.loop-place-init
loop-place-init c = (refl, ap length c.in_ok-moved.ensures.items ∙ none_yet c.args.self.now.width, refl, refl)

pub invariant_of-self : goal.invariant_of-self
invariant_of-self c = record { sized = c.move_row.ensures.len ∙ c.loop-place.self.sized }

pub invariant_of-result : goal.invariant_of-result
invariant_of-result c =
    let l = c.loop-place in
    record { sized = l.invariant.1 ∙ ap (λ n. n * l.self.width) (level l.place-index (length c.args.places.now) l.auto.place-index-end c.loop-place-test.false) }

pub returns-clause-rows : goal.returns-clause-rows
returns-clause-rows c =
    let l = c.loop-place in
    let ps = c.args.places.now in
    let width : ℕ = l.self.width in
    let seen = map view l.moved.items in
    ap (λ n. rows_of width n seen) (sym (level l.place-index (length ps) l.auto.place-index-end c.loop-place-test.false))
    ∙ sym (append-nil (rows_of width l.place-index seen))
    ∙ ap (λ qs. rows_of width l.place-index seen ++ moved_rows width (table l.self) qs) (sym (drop_all l.place-index ps c.loop-place-test.false))
    ∙ l.invariant.0

pub returns-clause-width : goal.returns-clause-width
returns-clause-width c = c.loop-place.invariant.2
