use Rattle.std.proofs.Common.{◌++◌, length, map, refl, ap, arith, ◌∙◌}
use Rattle.pg_meaning.specs.Updates.{set_clause}
use Rattle.pg_meaning.specs.declared.fault.Fault.TheVariants.{OutOfMemory}
use Rattle.pg_rows.specs.States.{seen, state_of}
use Rattle.pg_rows.specs.Tables.{table}
use Rattle.pg_syntax_tree.specs.View.{set_item_view}
use Rattle.pg_value_core.specs.Given.{parameters_view}
use Rattle.pg_write.proofs.ClauseLemmas.{set_gives, set_stops}
use Rattle.pg_write.proofs.ExitLemmas.{gives_fault}
use Rattle.pg_write.specs.Items.{item_of}
use Rattle.pg_write.proofs.setting.set_items.Goals as goal

pub returns-in_err-spend_for_rows-clause-answer : goal.returns-in_err-spend_for_rows-clause-answer
returns-in_err-spend_for_rows-clause-answer g c = λ s suits.
    let t = seen c.args.table.now in
    let items = c.args.items.now.items in
    let graph = c.args.live.now.graph in
    let used = c.args.meter.now.used in
    let e = c.in_err-spend_for_rows.field-0.0 in
    gives_fault c.from_residual.result e (set_clause s (map set_item_view items) (state_of graph t used)) (λ _. state_of graph t c.spend_for_rows.new.meter.used) c.from_residual.ensures.1
    (λ other. set_stops s (parameters_view c.args.query.now.parameters.now) suits.parameters_are t items graph used c.len.result c.len-2.result (c.len.ensures ∙ ap length c.rows.ensures.rows) (omega (arith, c.len-2.ensures, c.args.items.now.ok.0)) e (c.in_err-spend_for_rows.ensures.spends s suits.steps_are))

pub returns-in_err-spend_for_rows-clause-aside : goal.returns-in_err-spend_for_rows-clause-aside
returns-in_err-spend_for_rows-clause-aside g c = refl

pub returns-in_err-push_ready-clause-answer : goal.returns-in_err-push_ready-clause-answer
returns-in_err-push_ready-clause-answer g c = λ s suits.
    let t = seen c.args.table.now in
    let graph = c.args.live.now.graph in
    gives_fault c.from_residual-in_err-push_ready.result OutOfMemory (set_clause s (map set_item_view c.args.items.now.items) (state_of graph t c.args.meter.now.used)) (λ _. state_of graph t c.spend_for_rows.new.meter.used) c.from_residual-in_err-push_ready.ensures.1
    (λ other. absurd (other refl))

pub returns-in_err-push_ready-clause-aside : goal.returns-in_err-push_ready-clause-aside
returns-in_err-push_ready-clause-aside g c = refl

pub returns-clause-answer : goal.returns-clause-answer
returns-clause-answer g c = λ s suits.
    set_gives s (parameters_view c.args.query.now.parameters.now) c.args.meter.now.limit (seen c.args.table.now) suits c.args.items.now.items
    c.args.live.now.graph
    c.set_rows.new.live.graph
    c.args.meter.now.used c.spend_for_rows.new.meter.used c.len.result c.len-2.result
    (c.len.ensures ∙ ap length c.rows.ensures.rows) (omega (arith, c.len-2.ensures, c.args.items.now.ok.0))
    c.names.result.now c.names-2.result.now c.names.ensures c.names-2.ensures
    (table c.rows-2.result.now) c.rows-2.ensures.rows
    c.push_ready.new.ready.items (c.in_ok-push_ready.ensures ∙ ap (λ rs. map (item_of c.names.result.now) rs ++ map set_item_view c.args.items.now.items) c.new-ready.ensures.items)
    (c.in_ok-spend_for_rows.ensures.spends s suits.steps_are)
    c.set_rows.result c.set_rows.ensures.ok c.set_rows.ensures.err

pub returns-clause-aside : goal.returns-clause-aside
returns-clause-aside g c = c.set_rows.ensures.aside
