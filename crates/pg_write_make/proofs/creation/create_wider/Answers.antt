use Rattle.std.proofs.Common.{◌≡◌, ◌≤◌, ◌∷◌, ◌++◌, Ok, Err, drop, map, take, length, false, arith, refl, sym, ap, subst, ◌∙◌}
use Rattle.std.proofs.lemmas.Result.{IfOk-from_err}
use Rattle.pg_expr.proofs.ExitLemmas.{fault_passed}
use Rattle.pg_meaning.specs.Patterns.{add_path_names}
use Rattle.pg_meaning.specs.Reading.{test_paths}
use Rattle.pg_meaning.specs.declared.fault.Fault.TheVariants.{OutOfMemory}
use Rattle.pg_rows.specs.Left.{first_row, rows_left}
use Rattle.pg_rows.specs.Named.{row_of, rows_named}
use Rattle.pg_rows.specs.Tables.{table}
use Rattle.pg_value_core.specs.View.{view}
use Rattle.pg_write_make.proofs.CreatedRowLemmas.{one_fewer, row_passed, row_refused, rows_begun, rows_over, tests_read}
use Rattle.pg_write_make.proofs.StepLemmas.{row_done, row_failed}
use Rattle.pg_write_make.specs.Creations.{row_made, rows_created}
use Rattle.pg_write_make.specs.Lent.{paths_view}
use Rattle.pg_write_make.specs.Scenes.{max_elements_in, parameters_in, row_in}
use Rattle.pg_write_make.proofs.creation.create_wider.Goals as goal

pub returns-in_err-labels-clause-ok : goal.returns-in_err-labels-clause-ok
returns-in_err-labels-clause-ok g c = IfOk-from_err c.from_residual.result _ c.from_residual.ensures.0

pub returns-in_err-labels-clause-width : goal.returns-in_err-labels-clause-width
returns-in_err-labels-clause-width g c = IfOk-from_err c.from_residual.result _ c.from_residual.ensures.0

pub returns-in_err-labels-clause-err : goal.returns-in_err-labels-clause-err
returns-in_err-labels-clause-err g c = fault_passed _ OutOfMemory c.from_residual.result c.from_residual.ensures.1 (λ other. absurd (other refl))

pub returns-in_err-labels-clause-aside : goal.returns-in_err-labels-clause-aside
returns-in_err-labels-clause-aside g c = refl

pub returns-in_err-values-clause-ok : goal.returns-in_err-values-clause-ok
returns-in_err-values-clause-ok g c = IfOk-from_err c.from_residual-in_err-values.result _ c.from_residual-in_err-values.ensures.0

pub returns-in_err-values-clause-width : goal.returns-in_err-values-clause-width
returns-in_err-values-clause-width g c = IfOk-from_err c.from_residual-in_err-values.result _ c.from_residual-in_err-values.ensures.0

pub returns-in_err-values-clause-err : goal.returns-in_err-values-clause-err
returns-in_err-values-clause-err g c = fault_passed _ OutOfMemory c.from_residual-in_err-values.result c.from_residual-in_err-values.ensures.1 (λ other. absurd (other refl))

pub returns-in_err-values-clause-aside : goal.returns-in_err-values-clause-aside
returns-in_err-values-clause-aside g c = refl

pub loop-row-init : goal.loop-row-init
loop-row-init g c = record {
  rest = rows_begun (parameters_in c.args.scene.now) (max_elements_in c.args.scene.now) (paths_view c.args.paths.now) c.args.scene.now.names.now c.args.live.now.graph
      (rows_left c.into_left-left.result) (table c.new-made.result) (table c.args.rows) c.into_left-left.ensures.rows c.new-made.ensures.rows;
  width = c.new-made.ensures.width ∙ c.len.ensures;
  empty = c.in_ok-values.ensures.items;
  narrow = c.into_left-left.ensures.width;
  aside = refl;
}

pub returns-in_err-test_paths-clause-ok : goal.returns-in_err-test_paths-clause-ok
returns-in_err-test_paths-clause-ok g c = IfOk-from_err c.from_residual-in_err-test_paths.result _ c.from_residual-in_err-test_paths.ensures.0

pub returns-in_err-test_paths-clause-width : goal.returns-in_err-test_paths-clause-width
returns-in_err-test_paths-clause-width g c = IfOk-from_err c.from_residual-in_err-test_paths.result _ c.from_residual-in_err-test_paths.ensures.0

pub returns-in_err-test_paths-clause-err : goal.returns-in_err-test_paths-clause-err
returns-in_err-test_paths-clause-err g c =
    let scene = c.args.scene.now in
    let names = scene.names.now in
    let parameters = parameters_in scene in
    let max = max_elements_in scene in
    let ps = paths_view c.args.paths.now in
    let l = c.loop-row in
    let left = rows_left l.left in
    let row = row_in scene c.in-Some.row.now in
    let e = c.in_err-test_paths.field-0.0 in
    let tested = tests_read c.graph.result l.live.graph row row ps (Err e) c.graph.ensures.is refl c.in_err-test_paths.ensures in
    fault_passed _ e c.from_residual-in_err-test_paths.result c.from_residual-in_err-test_paths.ensures.1
    (λ other. row_failed parameters max ps names (map view c.in-Some.row.now) left (drop 1 left) l.live.graph (table l.made) (rows_created parameters max ps c.args.live.now.graph (rows_named names (table c.args.rows))) c.in-Some.ensures.row l.invariant.rest e (row_refused parameters max ps l.live.graph row e tested))

pub returns-in_err-test_paths-clause-aside : goal.returns-in_err-test_paths-clause-aside
returns-in_err-test_paths-clause-aside g c = c.loop-row.invariant.aside

pub next_into-requires : goal.next_into-requires
next_into-requires g c =
    let few = ap length c.in-Some.ensures.row in
    omega (arith, few)

pub returns-in_err-next_into-clause-ok : goal.returns-in_err-next_into-clause-ok
returns-in_err-next_into-clause-ok g c = IfOk-from_err c.from_residual-in_err-next_into.result _ c.from_residual-in_err-next_into.ensures.0

pub returns-in_err-next_into-clause-width : goal.returns-in_err-next_into-clause-width
returns-in_err-next_into-clause-width g c = IfOk-from_err c.from_residual-in_err-next_into.result _ c.from_residual-in_err-next_into.ensures.0

pub returns-in_err-next_into-clause-err : goal.returns-in_err-next_into-clause-err
returns-in_err-next_into-clause-err g c = fault_passed _ OutOfMemory c.from_residual-in_err-next_into.result c.from_residual-in_err-next_into.ensures.1 (λ other. absurd (other refl))

pub returns-in_err-next_into-clause-aside : goal.returns-in_err-next_into-clause-aside
returns-in_err-next_into-clause-aside g c = c.loop-row.invariant.aside

pub make_and_bind-requires-clause-ready : goal.make_and_bind-requires-clause-ready
make_and_bind-requires-clause-ready g c =
    let scene = c.args.scene.now in
    let names = scene.names.now in
    let parameters = parameters_in scene in
    let max = max_elements_in scene in
    let ps = paths_view c.args.paths.now in
    let l = c.loop-row in
    let left = rows_left l.left in
    let row = row_in scene c.in-Some.row.now in
    let none = ap length l.invariant.empty in
    let len = c.in_ok-next_into.ensures.len in
    let narrow = l.invariant.narrow in
    let wide : length c.next_into.new.values.items ≡ c.args.rows.width = omega (arith, none, len, narrow) in
    record {
      within = subst (λ n. n ≤ length names) (sym wide) c.requires.within;
      names = ap (λ n. add_path_names ps (take n names)) wide ∙ c.requires.names;
    }

pub make_and_bind-requires-clause-tested : goal.make_and_bind-requires-clause-tested
make_and_bind-requires-clause-tested g c =
    let scene = c.args.scene.now in
    let names = scene.names.now in
    let parameters = parameters_in scene in
    let max = max_elements_in scene in
    let ps = paths_view c.args.paths.now in
    let l = c.loop-row in
    let left = rows_left l.left in
    let row = row_in scene c.in-Some.row.now in
    let moved = c.in_ok-next_into.ensures.values ∙ (λ i. map view (l.invariant.empty i) ++ first_row (c.in-Some.ensures.row i)) in
    let tested = tests_read c.graph.result l.live.graph row row ps (Ok tt) c.graph.ensures.is refl c.in_ok-test_paths.ensures in
    ap (λ vs. test_paths false l.live.graph (row_of names vs) ps) moved ∙ tested

pub make_and_bind-requires-clause-labels : goal.make_and_bind-requires-clause-labels
make_and_bind-requires-clause-labels g c = c.in_ok-labels.ensures

pub returns-in_err-make_and_bind-clause-ok : goal.returns-in_err-make_and_bind-clause-ok
returns-in_err-make_and_bind-clause-ok g c = IfOk-from_err c.from_residual-in_err-make_and_bind.result _ c.from_residual-in_err-make_and_bind.ensures.0

pub returns-in_err-make_and_bind-clause-width : goal.returns-in_err-make_and_bind-clause-width
returns-in_err-make_and_bind-clause-width g c = IfOk-from_err c.from_residual-in_err-make_and_bind.result _ c.from_residual-in_err-make_and_bind.ensures.0

pub returns-in_err-make_and_bind-clause-err : goal.returns-in_err-make_and_bind-clause-err
returns-in_err-make_and_bind-clause-err g c =
    let scene = c.args.scene.now in
    let names = scene.names.now in
    let parameters = parameters_in scene in
    let max = max_elements_in scene in
    let ps = paths_view c.args.paths.now in
    let l = c.loop-row in
    let left = rows_left l.left in
    let row = row_in scene c.in-Some.row.now in
    let moved = c.in_ok-next_into.ensures.values ∙ (λ i. map view (l.invariant.empty i) ++ first_row (c.in-Some.ensures.row i)) in
    let tested = tests_read c.graph.result l.live.graph row row ps (Ok tt) c.graph.ensures.is refl c.in_ok-test_paths.ensures in
    let passed = sym (row_passed parameters max ps l.live.graph row tested) ∙ ap (λ vs. row_made parameters max ps l.live.graph (row_of names vs)) (sym moved) in
    let e = c.in_err-make_and_bind.field-0.0 in
    fault_passed _ e c.from_residual-in_err-make_and_bind.result c.from_residual-in_err-make_and_bind.ensures.1
    (λ other. row_failed parameters max ps names (map view c.in-Some.row.now) left (drop 1 left) l.live.graph (table l.made) (rows_created parameters max ps c.args.live.now.graph (rows_named names (table c.args.rows))) c.in-Some.ensures.row l.invariant.rest e (passed ∙ c.in_err-make_and_bind.ensures.err other))

pub returns-in_err-make_and_bind-clause-aside : goal.returns-in_err-make_and_bind-clause-aside
returns-in_err-make_and_bind-clause-aside g c = c.make_and_bind.ensures.aside ∙ c.loop-row.invariant.aside

pub push_from-requires : goal.push_from-requires
push_from-requires g c = c.in_ok-make_and_bind.ensures.whole ∙ sym c.loop-row.invariant.width

pub returns-in_err-push_from-clause-ok : goal.returns-in_err-push_from-clause-ok
returns-in_err-push_from-clause-ok g c = IfOk-from_err c.from_residual-in_err-push_from.result _ c.from_residual-in_err-push_from.ensures.0

pub returns-in_err-push_from-clause-width : goal.returns-in_err-push_from-clause-width
returns-in_err-push_from-clause-width g c = IfOk-from_err c.from_residual-in_err-push_from.result _ c.from_residual-in_err-push_from.ensures.0

pub returns-in_err-push_from-clause-err : goal.returns-in_err-push_from-clause-err
returns-in_err-push_from-clause-err g c = fault_passed _ OutOfMemory c.from_residual-in_err-push_from.result c.from_residual-in_err-push_from.ensures.1 (λ other. absurd (other refl))

pub returns-in_err-push_from-clause-aside : goal.returns-in_err-push_from-clause-aside
returns-in_err-push_from-clause-aside g c = c.make_and_bind.ensures.aside ∙ c.loop-row.invariant.aside

pub loop-row-smaller : goal.loop-row-smaller
loop-row-smaller g c =
    let left = rows_left c.loop-row.left in
    one_fewer left (rows_left c.next_into.new.self) (map view c.in-Some.row.now) (c.in-Some.ensures.row ∙ ap (λ rs. map view c.in-Some.row.now ∷ rs) (sym c.in_ok-next_into.ensures.rows))

pub loop-row-preserved : goal.loop-row-preserved
loop-row-preserved g c =
    let scene = c.args.scene.now in
    let names = scene.names.now in
    let parameters = parameters_in scene in
    let max = max_elements_in scene in
    let ps = paths_view c.args.paths.now in
    let l = c.loop-row in
    let left = rows_left l.left in
    let row = row_in scene c.in-Some.row.now in
    let moved = c.in_ok-next_into.ensures.values ∙ (λ i. map view (l.invariant.empty i) ++ first_row (c.in-Some.ensures.row i)) in
    let tested = tests_read c.graph.result l.live.graph row row ps (Ok tt) c.graph.ensures.is refl c.in_ok-test_paths.ensures in
    let passed = sym (row_passed parameters max ps l.live.graph row tested) ∙ ap (λ vs. row_made parameters max ps l.live.graph (row_of names vs)) (sym moved) in
    record {
      rest = row_done parameters max ps names (map view c.in-Some.row.now) left (rows_left c.next_into.new.self) l.live.graph (table l.made)
          (rows_created parameters max ps c.args.live.now.graph (rows_named names (table c.args.rows)))
          (c.in-Some.ensures.row ∙ ap (λ rs. map view c.in-Some.row.now ∷ rs) (sym c.in_ok-next_into.ensures.rows)) l.invariant.rest c.make_and_bind.new.live.graph
          (map view c.make_and_bind.new.values.items) (table c.push_from.new.self) (passed ∙ c.in_ok-make_and_bind.ensures.ok) c.in_ok-push_from.ensures.rows;
      width = c.push_from.ensures.width ∙ l.invariant.width;
      empty = c.in_ok-push_from.ensures.emptied;
      narrow = c.next_into.ensures.width ∙ l.invariant.narrow;
      aside = c.make_and_bind.ensures.aside ∙ l.invariant.aside;
    }

pub returns-clause-ok : goal.returns-clause-ok
returns-clause-ok g c =
    let parameters = parameters_in c.args.scene.now in
    let ps = paths_view c.args.paths.now in
    let names = c.args.scene.now.names.now in
    rows_over parameters (max_elements_in c.args.scene.now) ps names c.loop-row.live.graph (rows_left c.loop-row.left) (table c.loop-row.made)
    (rows_created parameters (max_elements_in c.args.scene.now) ps c.args.live.now.graph (rows_named names (table c.args.rows)))
    c.loop-row.invariant.rest c.in_default.ensures.none

pub returns-clause-width : goal.returns-clause-width
returns-clause-width g c = c.loop-row.invariant.width

pub returns-clause-aside : goal.returns-clause-aside
returns-clause-aside g c = c.loop-row.invariant.aside
