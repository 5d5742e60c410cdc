use Rattle.std.proofs.Common.{◌≡◌, map, drop}
use Rattle.pg_meaning.specs.Answer.{each_step}
use Rattle.pg_meaning.specs.Updates.{remove_row}
use Rattle.pg_rows.specs.Named.{rows_named}
use Rattle.pg_rows.specs.Tables.{table}
use Rattle.pg_syntax_tree.specs.View.{remove_item_view}
use Rattle.pg_write.proofs.removing.remove_items.Given as goal

abbrev pub invariant-loop-at : goal.invariant-loop-at
invariant-loop-at g l =
    let names = l.scene.names.now in
    let step = remove_row (map remove_item_view l.items.items) in
    record {
      rest : each_step step l.fn.live.graph (rows_named names (table l.rows)) ≡ each_step step l.live.graph (rows_named names (drop l.at (table l.rows)));
      aside : l.live.aside ≡ l.fn.live.aside;
    }
