use Rattle.std.proofs.Common.{rules, ◌≡◌, map, Err, refl, ap}
use Rattle.pg_expr.specs.Contexts.{found_view}
use Rattle.pg_expr.specs.Prepared.{tree_of}
use Rattle.pg_meaning.specs.declared.fault.Fault.{Fault}
use Rattle.pg_project.specs.Given.{trees_of, value_given, values_given}
use Rattle.pg_run.proofs.Returns.{no_item_tested, item_tested, item_refused, all_tested}
use Rattle.pg_scope.proofs.FirstLemmas.{item_here, items_end}
use Rattle.pg_value_core.specs.Given.{parameters_view}
use Rattle.pg_value_core.specs.View.{view}
use Rattle.pg_run.proofs.rows.test_items.Goals as goal

pub loop-one-init : goal.loop-one-init
loop-one-init g c =
    let names = c.args.items.now.names.now in
    no_item_tested (value_given (parameters_view c.args.items.now.query.now.parameters.now) c.args.graph.now names (map view c.args.row.now)) (trees_of names c.args.items.now.ready.now)

pub loop-one-preserved : goal.loop-one-preserved
loop-one-preserved g c =
    let names = c.args.items.now.names.now in
    let f = value_given (parameters_view c.args.items.now.query.now.parameters.now) c.args.graph.now names (map view c.args.row.now) in
    let here = ap (trees_of names) (item_here c.loop-one-test.true c.one-item.is refl) in
    item_tested f (trees_of names c.args.items.now.ready.now) _ _ _ c.loop-one.invariant here (found_view c.in_ok-find_at.field-0) c.in_ok-find_at.ensures.ok

pub returns-in_err-find_at-clause-err : goal.returns-in_err-find_at-clause-err
returns-in_err-find_at-clause-err g c =
    let names = c.args.items.now.names.now in
    let ps = parameters_view c.args.items.now.query.now.parameters.now in
    let graph = c.args.graph.now in
    let row = map view c.args.row.now in
    let f = value_given ps graph names row in
    let here = ap (trees_of names) (item_here c.loop-one-test.true c.one-item.is refl) in
    let refused : (e : Fault) → f (tree_of names c.one-item.result) ≡ Err e → values_given ps graph names (trees_of names c.args.items.now.ready.now) row ≡ Err e =
    λ e h. item_refused f (trees_of names c.args.items.now.ready.now) _ _ _ c.loop-one.invariant here e h in
    search (rules, refused)

pub returns-clause-ok : goal.returns-clause-ok
returns-clause-ok g c =
    let names = c.args.items.now.names.now in
    let f = value_given (parameters_view c.args.items.now.query.now.parameters.now) c.args.graph.now names (map view c.args.row.now) in
    let so_far = c.loop-one.invariant in
    let end = ap (trees_of names) (items_end c.loop-one-test.false refl) in
    record {
      values = so_far.values;
      are = all_tested f (trees_of names c.args.items.now.ready.now) _ so_far end;
    }
