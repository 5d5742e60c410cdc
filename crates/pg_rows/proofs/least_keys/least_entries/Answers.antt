use Rattle.std.proofs.Common.{◌≡◌, ◌<◌, length, map, take, sym, ap, subst, ◌∙◌, arith}
use Rattle.pg_value_core.specs.View.{view}
use Rattle.pg_rows.proofs.Picked.{picked_more, all_picked}
use Rattle.pg_rows.specs.LeastKeys.{HoldsLeast, least_of}
use Rattle.pg_rows.specs.Sorts.{directions_of, numbered, picked}
use Rattle.pg_rows.specs.Tables.{table}
use Rattle.pg_rows.proofs.least_keys.least_entries.Goals as goal

pub loop-at-init : goal.loop-at-init
loop-at-init c = c.in_ok-least.ensures c.args.sorts.now

pub loop-at-preserved : goal.loop-at-preserved
loop-at-preserved c =
    let by = c.args.sorts.now in
    let rows = table c.args.rows.now in
    let at = c.loop-at.at in
    subst (HoldsLeast c.args.most by c.take.new.self) (sym (picked_more by at rows (map view c.row.result.now) c.row.ensures)) (c.in_ok-take.ensures (take at (numbered 0 (map (picked by) rows))) c.loop-at.invariant)

pub returns : goal.returns
returns c =
    let by = c.args.sorts.now in
    let ended : c.loop-at.at ≡ length (table c.args.rows.now) = omega (arith, c.len-at-end.ensures, c.loop-at.auto.at-end) in
    c.in_ok-cut.ensures.least ∙ c.loop-at.invariant.same ∙ ap (least_of c.args.most (directions_of by)) (all_picked by (table c.args.rows.now) c.loop-at.at ended)

pub row-requires : goal.row-requires
row-requires c = subst (λ n. c.loop-at.at < n) c.len-at-end.ensures c.loop-at-test.true
