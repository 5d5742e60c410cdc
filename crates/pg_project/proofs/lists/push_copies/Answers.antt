use Rattle.std.proofs.Common.{◌≡◌, ◌+◌, ◌++◌, ◌∷◌, [], length, map, refl, sym, ap, ◌∙◌, arith}
use Rattle.std.proofs.lemmas.List.{append_assoc, append-nil, nil_from_length}
use Rattle.std.proofs.lemmas.Result.{IfOk-from_err}
use Rattle.std.specs.Vec.Iter.{into_iter_items, into_iter_len}
use Rattle.pg_project.proofs.UnwoundLemmas.{one_less}
use Rattle.pg_project.specs.Unwound.{with_column, with_item, with_items}
use Rattle.pg_rows.specs.Tables.{table}
use Rattle.pg_value_core.specs.View.{view}
use Rattle.pg_project.proofs.lists.push_copies.Goals as goal

pub loop-item-init : goal.loop-item-init
loop-item-init c = (
  (λ i. table c.args.found.now ++ with_items c.args.has_column (map view c.args.row.now) (map view (c.into_iter-item-iterator.ensures.into_iter_gives.0 i))),
  refl,
  c.new-copy.ensures.items,
)

pub returns-in_err-copy_row-clause-rows : goal.returns-in_err-copy_row-clause-rows
returns-in_err-copy_row-clause-rows c = IfOk-from_err c.from_residual.result _ c.from_residual.ensures.0

pub returns-in_err-copy_row-clause-width : goal.returns-in_err-copy_row-clause-width
returns-in_err-copy_row-clause-width c = c.loop-item.invariant.1

pub push_item-requires : goal.push_item-requires
push_item-requires c =
    let row = c.args.row.now in
    let plain : 0 + length row ≡ length row = omega arith in
    c.loop-item.invariant.1 ∙ c.requires ∙ ap (with_column c.args.has_column) (sym (c.in_ok-copy_row.ensures.len ∙ ap (λ vs. length vs + length row) c.loop-item.invariant.2 ∙ plain))

pub loop-item-smaller : goal.loop-item-smaller
loop-item-smaller c = one_less (into_iter_len c.next.new.self) (into_iter_len c.loop-item.item-iterator) c.in-Some.ensures.steps.1

pub loop-item-preserved : goal.loop-item-preserved
loop-item-preserved c =
    let l = c.loop-item in
    let before = table l.found in
    let row = map view c.args.row.now in
    let item = view c.in-Some.item in
    let with_rest = with_items c.args.has_column row (map view (into_iter_items c.next.new.self)) in (
      ap (λ rows. rows ++ with_rest) (c.in_ok-push_item.ensures.rows ∙ ap (λ vs. before ++ with_item c.args.has_column vs item ∷ []) (c.in_ok-copy_row.ensures.copied ∙ ap (λ vs. map view vs ++ row) l.invariant.2))
          ∙ append_assoc before (with_item c.args.has_column row item ∷ []) with_rest
          ∙ ap (λ items. before ++ with_items c.args.has_column row (map view items)) (sym c.in-Some.ensures.steps.0)
          ∙ l.invariant.0,
      c.in_ok-push_item.ensures.width ∙ l.invariant.1,
      c.in_ok-push_item.ensures.emptied,
    )

pub returns-in_err-push_item-clause-rows : goal.returns-in_err-push_item-clause-rows
returns-in_err-push_item-clause-rows c = IfOk-from_err c.from_residual-in_err-push_item.result _ c.from_residual-in_err-push_item.ensures.0

pub returns-in_err-push_item-clause-width : goal.returns-in_err-push_item-clause-width
returns-in_err-push_item-clause-width c = c.in_err-push_item.ensures.width ∙ c.loop-item.invariant.1

pub returns-clause-rows : goal.returns-clause-rows
returns-clause-rows c =
    let l = c.loop-item in
    let none = nil_from_length (into_iter_items l.item-iterator) (let ended = c.in-None.ensures.steps in omega (arith, ended.0)) in
    sym (append-nil (table l.found)) ∙ ap (λ items. table l.found ++ with_items c.args.has_column (map view c.args.row.now) (map view items)) (sym none) ∙ l.invariant.0

pub returns-clause-width : goal.returns-clause-width
returns-clause-width c = c.loop-item.invariant.1
