use Rattle.std.proofs.Common.{◌+◌, ◌++◌, drop, map, subst}
use Rattle.pg_meaning.specs.Scopes.{column_names}
use Rattle.pg_scope.proofs.FirstLemmas.{item_here, items_end}
use Rattle.pg_scope.proofs.ScopeLemmas.{same_self, moves_right}
use Rattle.pg_scope.specs.Columns.{column_of}
use Rattle.pg_scope.specs.Names.{names_in, HasSame}
use Rattle.pg_syntax_tree.specs.View.{item_view}
use Rattle.pg_scope.proofs.items.add_columns.Goals as goal

pub loop-item-init : goal.loop-item-init
loop-item-init c = same_self _

pub loop-item-preserved : goal.loop-item-preserved
loop-item-preserved c =
    let column = column_of c.args.naming in
    let here = item_here c.loop-item-test.true c.item-item.is c.deref-item-items.ensures.value in
    let all = column_names (map column (map item_view c.args.items.now.items)) ++ names_in c.args.names.now in
    moves_right (column_names (map column (map item_view (drop (c.loop-item.item-index + 1) c.args.items.now.items)))) c.in_ok-add.ensures.names c.column_name.ensures (subst (λ ys. HasSame (column_names (map column (map item_view ys)) ++ names_in c.loop-item.names) all) here c.loop-item.invariant)

pub returns : goal.returns
returns c =
    let column = column_of c.args.naming in
    let none = items_end c.loop-item-test.false c.deref-item-items.ensures.value in
    let all = column_names (map column (map item_view c.args.items.now.items)) ++ names_in c.args.names.now in
    subst (λ ys. HasSame (column_names (map column (map item_view ys)) ++ names_in c.loop-item.names) all) none c.loop-item.invariant
