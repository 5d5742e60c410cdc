use Rattle.std.proofs.Common.{◌≡◌, ◌++◌, drop, map}
use Rattle.pg_meaning.specs.Names.{Names}
use Rattle.pg_meaning.specs.Scopes.{column_names}
use Rattle.pg_meaning.specs.StaticFaults.{least, item_faults}
use Rattle.pg_scope.specs.Columns.{column_of, starred}
use Rattle.pg_scope.specs.Names.{names_in, HasSame}
use Rattle.pg_syntax_tree.specs.View.{item_view}
use Rattle.pg_scope.proofs.items.fault_in_items.Given as goal

abbrev pub invariant-loop-item : goal.invariant-loop-item
invariant-loop-item l = (done : Names) × HasSame (names_in l.columns ++ starred l.star (names_in l.scope)) done
    × HasSame (names_in l.columns ++ column_names (map (column_of l.naming) (map item_view (drop l.item-index l.items.items)))) (column_names (map (column_of l.naming) (map item_view l.items.items)))
    × (least l.fn.first (item_faults (column_of l.naming) (names_in l.scope) (starred l.star (names_in l.scope)) (map item_view l.items.items))
    ≡ least l.first (item_faults (column_of l.naming) (names_in l.scope) done (map item_view (drop l.item-index l.items.items))))
