use Rattle.std.proofs.Common.{◌≡◌, length, map, refl, sym, ap, ◌∙◌, arith}
use Rattle.std.proofs.lemmas.List.{length-map}
use Rattle.std.proofs.lemmas.Result.{IfOk-from_err, err_from_is_err_and}
use Rattle.pg_expr.proofs.ExitLemmas.{fault_passed}
use Rattle.pg_meaning.specs.Updates.{set_row}
use Rattle.pg_meaning.specs.declared.fault.Fault.TheVariants.{OutOfMemory}
use Rattle.pg_rows.specs.Tables.{table}
use Rattle.pg_value_core.specs.View.{view}
use Rattle.pg_write.specs.Items.{item_of}
use Rattle.pg_write_make.specs.Scenes.{parameters_in, reading, row_in}
use Rattle.pg_write.proofs.MergeLemmas.{row_done, row_fault, row_refused}
use Rattle.pg_write.specs.Ready.{items_in, names_in, setting_in}
use Rattle.pg_write.proofs.merged_rows.merged_row.Goals as goal

pub returns-in_err-spend-clause-err : goal.returns-in_err-spend-clause-err
returns-in_err-spend-clause-err g c =
    let p = err_from_is_err_and c.from_residual.result c.from_residual.ensures.1 in
    let m = c.args.merging.now in
    let s = setting_in m c.args.meter.now.limit in
    let items = items_in m c.args.items.now.items in
    let graph = c.args.live.now.graph in
    let counted : c.len.result ≡ length c.args.items.now.items = omega (arith, c.len.ensures, c.args.items.now.ok.0) in
    let many : c.len.result ≡ length items = counted ∙ sym (length-map c.args.items.now.items (item_of (names_in m))) in
    rw (p.1, p.2)
    (λ other. row_refused s items graph (names_in m) (table c.args.merged.now) c.args.meter.now.used c.len.result (map view c.args.row.items) many _ (c.in_err-spend.ensures.spends s refl))

pub returns-in_err-set_row-clause-err : goal.returns-in_err-set_row-clause-err
returns-in_err-set_row-clause-err g c =
    let p = err_from_is_err_and c.from_residual-in_err-set_row.result c.from_residual-in_err-set_row.ensures.1 in
    let m = c.args.merging.now in
    let s = setting_in m c.args.meter.now.limit in
    let items = items_in m c.args.items.now.items in
    let graph = c.args.live.now.graph in
    let counted : c.len.result ≡ length c.args.items.now.items = omega (arith, c.len.ensures, c.args.items.now.ok.0) in
    let many : c.len.result ≡ length items = counted ∙ sym (length-map c.args.items.now.items (item_of (names_in m))) in
    rw (p.1, p.2)
    (λ other.
    row_fault s items graph (names_in m) (table c.args.merged.now) c.args.meter.now.used c.len.result (map view c.args.row.items) many _ c.spend.new.self.used (c.in_ok-spend.ensures.spends s refl)
    (ap (λ vs. set_row (reading (parameters_in m.scene)) items graph (row_in m.scene vs)) (sym c.deref.ensures.value) ∙ c.in_err-set_row.ensures.err other))

pub returns-clause-ok : goal.returns-clause-ok
returns-clause-ok g c =
    let m = c.args.merging.now in
    let s = setting_in m c.args.meter.now.limit in
    let items = items_in m c.args.items.now.items in
    let graph = c.args.live.now.graph in
    let counted : c.len.result ≡ length c.args.items.now.items = omega (arith, c.len.ensures, c.args.items.now.ok.0) in
    let many : c.len.result ≡ length items = counted ∙ sym (length-map c.args.items.now.items (item_of (names_in m))) in
    row_done s items graph (names_in m) (table c.args.merged.now) c.args.meter.now.used c.len.result (map view c.args.row.items) many
    c.set_row.new.live.graph (table c.push.new.self) c.spend.new.self.used (c.in_ok-spend.ensures.spends s refl)
    (ap (λ vs. set_row (reading (parameters_in m.scene)) items graph (row_in m.scene vs)) (sym c.deref.ensures.value) ∙ c.in_ok-set_row.ensures.ok)
    c.in_ok-push.ensures.rows

pub returns-in_err-spend-clause-ok : goal.returns-in_err-spend-clause-ok
returns-in_err-spend-clause-ok g c = IfOk-from_err c.from_residual.result _ c.from_residual.ensures.0

pub returns-in_err-spend-clause-width : goal.returns-in_err-spend-clause-width
returns-in_err-spend-clause-width g c = refl

pub returns-in_err-spend-clause-aside : goal.returns-in_err-spend-clause-aside
returns-in_err-spend-clause-aside g c = refl

pub returns-in_err-spend-clause-limit : goal.returns-in_err-spend-clause-limit
returns-in_err-spend-clause-limit g c = c.spend.ensures.limit

pub returns-in_err-set_row-clause-ok : goal.returns-in_err-set_row-clause-ok
returns-in_err-set_row-clause-ok g c = IfOk-from_err c.from_residual-in_err-set_row.result _ c.from_residual-in_err-set_row.ensures.0

pub returns-in_err-set_row-clause-width : goal.returns-in_err-set_row-clause-width
returns-in_err-set_row-clause-width g c = refl

pub returns-in_err-set_row-clause-aside : goal.returns-in_err-set_row-clause-aside
returns-in_err-set_row-clause-aside g c = c.set_row.ensures.aside

pub returns-in_err-set_row-clause-limit : goal.returns-in_err-set_row-clause-limit
returns-in_err-set_row-clause-limit g c = c.spend.ensures.limit

pub returns-in_err-push-clause-ok : goal.returns-in_err-push-clause-ok
returns-in_err-push-clause-ok g c = IfOk-from_err c.from_residual-in_err-push.result _ c.from_residual-in_err-push.ensures.0

pub returns-in_err-push-clause-err : goal.returns-in_err-push-clause-err
returns-in_err-push-clause-err g c = fault_passed _ OutOfMemory c.from_residual-in_err-push.result c.from_residual-in_err-push.ensures.1 (λ other. absurd (other refl))

pub returns-in_err-push-clause-width : goal.returns-in_err-push-clause-width
returns-in_err-push-clause-width g c = c.push.ensures.width

pub returns-in_err-push-clause-aside : goal.returns-in_err-push-clause-aside
returns-in_err-push-clause-aside g c = c.set_row.ensures.aside

pub returns-in_err-push-clause-limit : goal.returns-in_err-push-clause-limit
returns-in_err-push-clause-limit g c = c.spend.ensures.limit

pub returns-clause-err : goal.returns-clause-err
returns-clause-err g c = tt

pub returns-clause-width : goal.returns-clause-width
returns-clause-width g c = c.push.ensures.width

pub returns-clause-aside : goal.returns-clause-aside
returns-clause-aside g c = c.set_row.ensures.aside

pub returns-clause-limit : goal.returns-clause-limit
returns-clause-limit g c = c.spend.ensures.limit
