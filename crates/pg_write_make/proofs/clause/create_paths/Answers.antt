use Rattle.std.proofs.Common.{◌≡◌, Ok, Err, length, take, refl, sym, ap, ◌∙◌}
use Rattle.std.proofs.lemmas.Result.{err_from_is_err_and, IfOk-from_err}
use Rattle.pg_meaning.specs.Patterns.{add_path_names}
use Rattle.pg_meaning.specs.Updates.{count_new, create_clause}
use Rattle.pg_meaning.specs.declared.fault.Fault.{Fault}
use Rattle.pg_rows.specs.Named.{rows_named}
use Rattle.pg_rows.specs.States.{seen, state_of}
use Rattle.pg_rows.specs.Tables.{table}
use Rattle.pg_value_core.specs.Given.{parameters_view}
use Rattle.pg_write_make.proofs.ClauseLemmas.{clause_done, clause_fault, clause_refused}
use Rattle.pg_write_make.proofs.ShapeLemmas.{first_kept}
use Rattle.pg_write_make.specs.Creations.{rows_created}
use Rattle.pg_write_make.specs.Lent.{paths_view}
use Rattle.pg_write_make.proofs.clause.create_paths.Goals as goal

pub create_rows-requires-clause-names : goal.create_rows-requires-clause-names
create_rows-requires-clause-names g c =
    let ps = paths_view c.args.paths.now.items in
    let names = c.bind_names.new.names in
    let named : names ≡ add_path_names ps (seen c.args.table).names = c.in_ok-bind_names.ensures.names ∙ (λ i. add_path_names (paths_view (c.deref-2.ensures.value i)) (c.split-names.ensures.names i)) in
    (λ i. add_path_names (paths_view (c.deref-3.ensures.value i)) (take (c.split-names.ensures.width i) names))
    ∙ ap (add_path_names ps) (first_kept ps (seen c.args.table).names names named)
    ∙ sym named

pub returns-in_err-count-clause-gives : goal.returns-in_err-count-clause-gives
returns-in_err-count-clause-gives g c =
    let p = err_from_is_err_and c.from_residual.result c.from_residual.ensures.1 in
    λ s suits most. record { ok = rw p.1 tt; err = rw (p.1, p.2) (λ other. absurd (other refl)) }

pub returns-in_err-spend_for_rows-clause-gives : goal.returns-in_err-spend_for_rows-clause-gives
returns-in_err-spend_for_rows-clause-gives g c =
    let ps = paths_view c.args.paths.now.items in
    let t = seen c.args.table in
    let many : c.len.result ≡ length t.rows = c.len.ensures ∙ ap length c.split-names.ensures.rows in
    let count : c.in_ok-count.count ≡ count_new t.names ps = c.in_ok-count.ensures ∙ (λ i. count_new (c.split-names.ensures.names i) (paths_view (c.deref.ensures.value i))) in
    let p = err_from_is_err_and c.from_residual-in_err-spend_for_rows.result c.from_residual-in_err-spend_for_rows.ensures.1 in
    λ s suits most. record {
      ok = rw p.1 tt;
      err = rw (p.1, p.2) (λ other. clause_refused s (parameters_view c.args.query.now.parameters.now) c.args.meter.now.limit c.args.query.now.max_elements t suits most ps c.args.live.now.graph c.args.meter.now.used
          c.len.result c.in_ok-count.count many count c.in_err-spend_for_rows.field-0.0 (c.in_err-spend_for_rows.ensures.spends s suits.steps_are));
    }

pub returns-in_err-bind_names-clause-gives : goal.returns-in_err-bind_names-clause-gives
returns-in_err-bind_names-clause-gives g c =
    let p = err_from_is_err_and c.from_residual-in_err-bind_names.result c.from_residual-in_err-bind_names.ensures.1 in
    λ s suits most. record { ok = rw p.1 tt; err = rw (p.1, p.2) (λ other. absurd (other refl)) }

pub returns-in_err-made-clause-gives : goal.returns-in_err-made-clause-gives
returns-in_err-made-clause-gives g c =
    let ps = paths_view c.args.paths.now.items in
    let t = seen c.args.table in
    let parameters = parameters_view c.args.query.now.parameters.now in
    let before = c.args.live.now.graph in
    let names = c.bind_names.new.names in
    let rows = c.split-names.result.1 in
    let named : names ≡ add_path_names ps t.names = c.in_ok-bind_names.ensures.names ∙ (λ i. add_path_names (paths_view (c.deref-2.ensures.value i)) (c.split-names.ensures.names i)) in
    let many : c.len.result ≡ length t.rows = c.len.ensures ∙ ap length c.split-names.ensures.rows in
    let count : c.in_ok-count.count ≡ count_new t.names ps = c.in_ok-count.ensures ∙ (λ i. count_new (c.split-names.ensures.names i) (paths_view (c.deref.ensures.value i))) in
    λ s suits most.
    let refused : (f : Fault) → rows_created parameters c.args.query.now.max_elements (paths_view c.deref-3.result.now) before (rows_named names (table rows)) ≡ Err f → create_clause s ps (state_of before t c.args.meter.now.used) ≡ Err f =
    λ f is. clause_fault s parameters c.args.meter.now.limit c.args.query.now.max_elements t suits most ps before c.args.meter.now.used c.len.result c.in_ok-count.count many count
    c.spend_for_rows.new.meter.used (c.in_ok-spend_for_rows.ensures.spends s suits.steps_are) names named rows c.split-names.ensures.rows c.split-names.ensures.width f
    (ap (λ p. rows_created parameters c.args.query.now.max_elements (paths_view p) before (rows_named names (table rows))) (sym c.deref-3.ensures.value) ∙ is) in
    let p = err_from_is_err_and c.from_residual-in_err-made.result c.from_residual-in_err-made.ensures.1 in
    record {
      ok = rw p.1 tt;
      err = rw (p.1, p.2) (λ other. refused c.in_err-made.field-0.0 (c.in_err-made.ensures.err other));
    }

pub returns-clause-gives : goal.returns-clause-gives
returns-clause-gives g c =
    let ps = paths_view c.args.paths.now.items in
    let t = seen c.args.table in
    let parameters = parameters_view c.args.query.now.parameters.now in
    let before = c.args.live.now.graph in
    let after = c.create_rows.new.live.graph in
    let names = c.bind_names.new.names in
    let rows = c.split-names.result.1 in
    let made = c.in_ok-made.made in
    let steps = c.spend_for_rows.new.meter.used in
    let named : names ≡ add_path_names ps t.names = c.in_ok-bind_names.ensures.names ∙ (λ i. add_path_names (paths_view (c.deref-2.ensures.value i)) (c.split-names.ensures.names i)) in
    let many : c.len.result ≡ length t.rows = c.len.ensures ∙ ap length c.split-names.ensures.rows in
    let count : c.in_ok-count.count ≡ count_new t.names ps = c.in_ok-count.ensures ∙ (λ i. count_new (c.split-names.ensures.names i) (paths_view (c.deref.ensures.value i))) in
    let done : rows_created parameters c.args.query.now.max_elements ps before (rows_named names (table rows)) ≡ Ok (after, rows_named names (table made)) =
    ap (λ p. rows_created parameters c.args.query.now.max_elements (paths_view p) before (rows_named names (table rows))) (sym c.deref-3.ensures.value) ∙ c.in_ok-made.ensures.ok in
    λ s suits most. record {
      ok =
          clause_done s parameters c.args.meter.now.limit c.args.query.now.max_elements t suits most ps before c.args.meter.now.used c.len.result c.in_ok-count.count many count
          steps (c.in_ok-spend_for_rows.ensures.spends s suits.steps_are) names named rows c.split-names.ensures.rows c.split-names.ensures.width after (rows_named names (table made)) done
          ∙ ap (λ u. Ok (state_of after u steps)) (sym c.new.ensures);
      err = tt;
    }

pub returns-in_err-count-clause-names : goal.returns-in_err-count-clause-names
returns-in_err-count-clause-names g c = IfOk-from_err c.from_residual.result _ c.from_residual.ensures.0

pub returns-in_err-count-clause-aside : goal.returns-in_err-count-clause-aside
returns-in_err-count-clause-aside g c = refl

pub returns-in_err-count-clause-limit : goal.returns-in_err-count-clause-limit
returns-in_err-count-clause-limit g c = refl

pub returns-in_err-spend_for_rows-clause-names : goal.returns-in_err-spend_for_rows-clause-names
returns-in_err-spend_for_rows-clause-names g c = IfOk-from_err c.from_residual-in_err-spend_for_rows.result _ c.from_residual-in_err-spend_for_rows.ensures.0

pub returns-in_err-spend_for_rows-clause-aside : goal.returns-in_err-spend_for_rows-clause-aside
returns-in_err-spend_for_rows-clause-aside g c = refl

pub returns-in_err-spend_for_rows-clause-limit : goal.returns-in_err-spend_for_rows-clause-limit
returns-in_err-spend_for_rows-clause-limit g c = c.spend_for_rows.ensures.limit

pub returns-in_err-bind_names-clause-names : goal.returns-in_err-bind_names-clause-names
returns-in_err-bind_names-clause-names g c = IfOk-from_err c.from_residual-in_err-bind_names.result _ c.from_residual-in_err-bind_names.ensures.0

pub returns-in_err-bind_names-clause-aside : goal.returns-in_err-bind_names-clause-aside
returns-in_err-bind_names-clause-aside g c = refl

pub returns-in_err-bind_names-clause-limit : goal.returns-in_err-bind_names-clause-limit
returns-in_err-bind_names-clause-limit g c = c.spend_for_rows.ensures.limit

pub returns-in_err-made-clause-names : goal.returns-in_err-made-clause-names
returns-in_err-made-clause-names g c = IfOk-from_err c.from_residual-in_err-made.result _ c.from_residual-in_err-made.ensures.0

pub returns-in_err-made-clause-aside : goal.returns-in_err-made-clause-aside
returns-in_err-made-clause-aside g c = c.create_rows.ensures.aside

pub returns-in_err-made-clause-limit : goal.returns-in_err-made-clause-limit
returns-in_err-made-clause-limit g c = c.spend_for_rows.ensures.limit

pub returns-clause-names : goal.returns-clause-names
returns-clause-names g c =
    ap (λ t. t.names) c.new.ensures
    ∙ c.in_ok-bind_names.ensures.names
    ∙ (λ i. add_path_names (paths_view (c.deref-2.ensures.value i)) (c.split-names.ensures.names i))

pub returns-clause-aside : goal.returns-clause-aside
returns-clause-aside g c = c.create_rows.ensures.aside

pub returns-clause-limit : goal.returns-clause-limit
returns-clause-limit g c = c.spend_for_rows.ensures.limit
