use Rattle.std.proofs.Common.{rules, ◌≡◌, map, Err, refl, ap}
use Rattle.pg_expr.specs.Prepared.{tree_of}
use Rattle.pg_meaning.specs.declared.fault.Fault.{Fault}
use Rattle.pg_project.specs.Given.{trees_of, value_given, values_given}
use Rattle.pg_run.proofs.Returns.{no_item, one_item, item_fault, all_items}
use Rattle.pg_scope.proofs.FirstLemmas.{item_here, items_end}
use Rattle.pg_value_core.specs.Given.{parameters_view}
use Rattle.pg_value_core.specs.View.{view}
use Rattle.pg_run.proofs.rows.tell_items.Goals as goal

pub loop-one-init : goal.loop-one-init
loop-one-init g c =
    let names = c.args.items.now.names.now in
    no_item c.args.graph.now c.begin_row.new.self (value_given (parameters_view c.args.items.now.query.now.parameters.now) c.args.graph.now names (map view c.args.row.now)) (trees_of names c.args.items.now.ready.now)

pub loop-one-preserved : goal.loop-one-preserved
loop-one-preserved g c =
    let names = c.args.items.now.names.now in
    let f = value_given (parameters_view c.args.items.now.query.now.parameters.now) c.args.graph.now names (map view c.args.row.now) in
    let here = ap (trees_of names) (item_here c.loop-one-test.true c.one-item.is refl) in
    let told = c.in_ok-tell_item.ensures.ok in
    one_item c.args.graph.now _ f (trees_of names c.args.items.now.ready.now) _ _ _ _ _ told.value c.loop-one.invariant here told.is told.telling

pub returns-in_err-tell_item-clause-err : goal.returns-in_err-tell_item-clause-err
returns-in_err-tell_item-clause-err g c =
    let names = c.args.items.now.names.now in
    let ps = parameters_view c.args.items.now.query.now.parameters.now in
    let graph = c.args.graph.now in
    let row = map view c.args.row.now in
    let f = value_given ps graph names row in
    let here = ap (trees_of names) (item_here c.loop-one-test.true c.one-item.is refl) in
    let refused : (e : Fault) → f (tree_of names c.one-item.result) ≡ Err e → values_given ps graph names (trees_of names c.args.items.now.ready.now) row ≡ Err e =
    λ e h. item_fault graph _ f (trees_of names c.args.items.now.ready.now) _ _ _ _ e c.loop-one.invariant here h in
    search (rules, refused)

pub returns-clause-ok : goal.returns-clause-ok
returns-clause-ok g c =
    let names = c.args.items.now.names.now in
    let f = value_given (parameters_view c.args.items.now.query.now.parameters.now) c.args.graph.now names (map view c.args.row.now) in
    let so_far = c.loop-one.invariant in
    let end = ap (trees_of names) (items_end c.loop-one-test.false refl) in
    record {
      values = so_far.values;
      are = all_items c.args.graph.now _ f (trees_of names c.args.items.now.ready.now) _ _ so_far end;
      telling = λ notes columns rows h. so_far.telling notes columns rows (c.in_ok-begin_row.ensures.telling notes c.args.graph.now columns rows h);
    }
