use Rattle.std.proofs.Common.{◌≡◌, map, drop}
use Rattle.pg_meaning.specs.Updates.{set_row}
use Rattle.pg_write.specs.Items.{item_of}
use Rattle.pg_write_make.specs.Scenes.{reading, row_in, parameters_in}
use Rattle.pg_write.proofs.setting.set_row.Given as goal

abbrev pub invariant-loop-item : goal.invariant-loop-item
invariant-loop-item g l =
    let names = l.scene.names.now in
    let s = reading (parameters_in l.scene) in
    let row = row_in l.scene l.row in
    record {
      rest : set_row s (map (item_of names) l.items.items) l.fn.live.graph row ≡ set_row s (map (item_of names) (drop l.item-index l.items.items)) l.live.graph row;
      aside : l.live.aside ≡ l.fn.live.aside;
    }
