use Rattle.std.proofs.Common.{◌≡◌, map, drop}
use Rattle.pg_meaning.specs.Updates.{remove_row}
use Rattle.pg_syntax_tree.specs.View.{remove_item_view}
use Rattle.pg_write_make.specs.Scenes.{row_in}
use Rattle.pg_write.proofs.removing.remove_row.Given as goal

abbrev pub invariant-loop-item : goal.invariant-loop-item
invariant-loop-item g l =
    let row = row_in l.scene l.row in
    record {
      rest : remove_row (map remove_item_view l.items.items) l.fn.live.graph row ≡ remove_row (map remove_item_view (drop l.item-index l.items.items)) l.live.graph row;
      aside : l.live.aside ≡ l.fn.live.aside;
    }
