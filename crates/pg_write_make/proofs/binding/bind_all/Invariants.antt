use Rattle.std.proofs.Common.{◌≡◌, map}
use Rattle.std.specs.Vec.Iter.{into_iter_items}
use Rattle.pg_rows.specs.Named.{row_of}
use Rattle.pg_value_core.specs.View.{view}
use Rattle.pg_write_make.specs.Bindings.{bind_each, EndsWith}
use Rattle.pg_write_make.specs.Lent.{bindings_view}
use Rattle.pg_write_make.proofs.binding.bind_all.Given as goal

abbrev pub invariant-loop-name : goal.invariant-loop-name
invariant-loop-name l =
    let names = l.scene.names.now in
    let left = bindings_view (into_iter_items l.name-iterator) in
    record {
      rest : bind_each (bindings_view l.fn.bindings.items) (row_of names (map view l.fn.values.items)) ≡ bind_each left (row_of names (map view l.values.items));
      ends : EndsWith names (map view l.values.items) left;
    }
