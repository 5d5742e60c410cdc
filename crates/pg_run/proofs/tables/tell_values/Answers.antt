use Rattle.std.proofs.Common.{ap, map, refl}
use Rattle.std.proofs.lemmas.List.{drop_all}
use Rattle.pg_run.proofs.Tells.{all_values_told, one_value_told}
use Rattle.pg_scope.proofs.FirstLemmas.{item_here}
use Rattle.pg_value_core.specs.View.{view}
use Rattle.pg_run.proofs.tables.tell_values.Goals as goal

pub loop-value-preserved : goal.loop-value-preserved
loop-value-preserved g c =
    one_value_told c.args.graph.now _ _ _ _ _ _ (view c.value-item.result) c.loop-value.invariant (ap (map view) (item_here c.loop-value-test.true c.value-item.is refl)) c.in_ok-take.ensures.telling

pub returns : goal.returns
returns g c = λ notes columns rows h.
    all_values_told c.args.graph.now _ _ _ _ c.loop-value.invariant (ap (map view) (drop_all c.loop-value.value-index c.args.row.now c.loop-value-test.false)) notes columns rows (c.in_ok-begin_row.ensures.telling notes c.args.graph.now columns rows h)
