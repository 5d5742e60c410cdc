use Rattle.std.proofs.Common.{◌≤◌, length, map, Ok, Err, refl, ap, subst, arith, ◌∙◌}
use Rattle.pg_meaning.specs.Updates.{remove_clause, remove_row}
use Rattle.pg_rows.specs.Named.{row_of}
use Rattle.pg_rows.specs.States.{seen, state_of}
use Rattle.pg_rows.specs.Tables.{table}
use Rattle.pg_syntax_tree.specs.View.{remove_item_view}
use Rattle.pg_value_core.specs.View.{view}
use Rattle.pg_write.proofs.ClauseLemmas.{remove_gives, remove_stops}
use Rattle.pg_write.proofs.ExitLemmas.{gives_fault}
use Rattle.pg_write_make.proofs.RowLemmas.{step_fault, step_on, steps_done}
use Rattle.pg_write.proofs.removing.remove_items.Goals as goal

pub returns-in_err-spend_for_rows-clause-answer : goal.returns-in_err-spend_for_rows-clause-answer
returns-in_err-spend_for_rows-clause-answer g c = λ s suits.
    let t = seen c.args.table.now in
    let items = c.args.items.now.items in
    let graph = c.args.live.now.graph in
    let used = c.args.meter.now.used in
    gives_fault c.from_residual.result c.in_err-spend_for_rows.field-0.0 (remove_clause s (map remove_item_view items) (state_of graph t used)) (λ _. state_of graph t c.spend_for_rows.new.meter.used) c.from_residual.ensures.1
    (λ other. remove_stops s t items graph used c.len.result c.len-2.result (c.len.ensures ∙ ap length c.rows.ensures.rows) (omega (arith, c.len-2.ensures, c.args.items.now.ok.0)) c.in_err-spend_for_rows.field-0.0 (c.in_err-spend_for_rows.ensures.spends s suits.steps_are))

pub returns-in_err-spend_for_rows-clause-aside : goal.returns-in_err-spend_for_rows-clause-aside
returns-in_err-spend_for_rows-clause-aside g c = refl

pub loop-at-init : goal.loop-at-init
loop-at-init g c = record { rest = refl; aside = refl }

pub loop-at-preserved : goal.loop-at-preserved
loop-at-preserved g c =
    let l = c.loop-at in
    record {
      rest =
          l.invariant.rest
          ∙ step_on (remove_row (map remove_item_view c.args.items.now.items)) (row_of c.names.result.now) (table c.rows-rows.result.now) l.at l.live.graph c.remove_row.new.live.graph (map view c.row.result.now) c.row.ensures c.in_ok-remove_row.ensures.ok;
      aside = c.remove_row.ensures.aside ∙ l.invariant.aside;
    }

pub returns-in_err-remove_row-clause-answer : goal.returns-in_err-remove_row-clause-answer
returns-in_err-remove_row-clause-answer g c = λ s suits.
    let t = seen c.args.table.now in
    let items = c.args.items.now.items in
    let graph = c.args.live.now.graph in
    let l = c.loop-at in
    let after = c.remove_row.new.live.graph in
    let e = c.in_err-remove_row.field-0.0 in
    gives_fault c.from_residual-in_err-remove_row.result e (remove_clause s (map remove_item_view items) (state_of graph t c.args.meter.now.used)) (λ _. state_of after t c.spend_for_rows.new.meter.used) c.from_residual-in_err-remove_row.ensures.1
    (remove_gives s t items graph after c.args.meter.now.used c.spend_for_rows.new.meter.used c.len.result c.len-2.result
    (c.len.ensures ∙ ap length c.rows.ensures.rows) (omega (arith, c.len-2.ensures, c.args.items.now.ok.0))
    c.names.result.now c.names.ensures (table c.rows-rows.result.now) c.rows-rows.ensures.rows
    (c.in_ok-spend_for_rows.ensures.spends s suits.steps_are) (Err e) tt (λ other.
    l.invariant.rest
    ∙ step_fault (remove_row (map remove_item_view items)) (row_of c.names.result.now) (table c.rows-rows.result.now) l.at l.live.graph e (map view c.row.result.now) c.row.ensures (c.in_err-remove_row.ensures.err other))).err

pub returns-in_err-remove_row-clause-aside : goal.returns-in_err-remove_row-clause-aside
returns-in_err-remove_row-clause-aside g c =
    c.remove_row.ensures.aside ∙ c.loop-at.invariant.aside

pub returns-clause-answer : goal.returns-clause-answer
returns-clause-answer g c = λ s suits.
    let t = seen c.args.table.now in
    let items = c.args.items.now.items in
    let graph = c.args.live.now.graph in
    let l = c.loop-at in
    remove_gives s t items graph l.live.graph c.args.meter.now.used c.spend_for_rows.new.meter.used c.len.result c.len-2.result
    (c.len.ensures ∙ ap length c.rows.ensures.rows) (omega (arith, c.len-2.ensures, c.args.items.now.ok.0))
    c.names.result.now c.names.ensures (table c.rows-rows.result.now) c.rows-rows.ensures.rows
    (c.in_ok-spend_for_rows.ensures.spends s suits.steps_are) (Ok tt) (l.invariant.rest
    ∙ steps_done (remove_row (map remove_item_view items)) (row_of c.names.result.now) (table c.rows-rows.result.now) l.at l.live.graph (subst (λ n. n ≤ l.at) c.len-at-end.ensures c.loop-at-test.false)) tt

pub returns-clause-aside : goal.returns-clause-aside
returns-clause-aside g c = c.loop-at.invariant.aside
