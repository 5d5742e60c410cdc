use Rattle.std.proofs.Common.{◌≡◌, ◌<◌, ◌++◌, ◌∷◌, [], length, map, sym, ap, subst, ◌∙◌, arith}
use Rattle.pg_value_core.specs.View.{view}
use Rattle.pg_rows.proofs.Picked.{picked_more, all_picked}
use Rattle.pg_rows.proofs.Tabled.{map_append}
use Rattle.pg_rows.specs.Sorts.{entries_view, entry_of, picked}
use Rattle.pg_rows.specs.Tables.{table}
use Rattle.pg_rows.proofs.sorts.entries_of.Goals as goal

pub loop-at-init : goal.loop-at-init
loop-at-init c = λ sorts. ap (entries_view sorts) c.in_ok-entries.ensures.items

pub loop-at-preserved : goal.loop-at-preserved
loop-at-preserved c = λ sorts.
    let at = c.loop-at.at in
    ap (entries_view sorts) c.in_ok-push.ensures.items
    ∙ map_append (entry_of sorts) c.loop-at.entries.items ((c.row.result, at) ∷ [])
    ∙ ap (λ es. es ++ (picked sorts (map view c.row.result.now), at) ∷ []) (c.loop-at.invariant sorts)
    ∙ sym (picked_more sorts at (table c.args.rows.now) (map view c.row.result.now) c.row.ensures)

pub returns : goal.returns
returns c = λ sorts.
    let ended : c.loop-at.at ≡ length (table c.args.rows.now) = omega (arith, c.len-at-end.ensures, c.loop-at.auto.at-end) in
    c.loop-at.invariant sorts ∙ all_picked sorts (table c.args.rows.now) c.loop-at.at ended

pub row-requires : goal.row-requires
row-requires c = subst (λ n. c.loop-at.at < n) c.len-at-end.ensures c.loop-at-test.true
