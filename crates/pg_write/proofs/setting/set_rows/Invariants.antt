use Rattle.std.proofs.Common.{◌≡◌, map, drop}
use Rattle.pg_meaning.specs.Answer.{each_step}
use Rattle.pg_meaning.specs.Updates.{set_row}
use Rattle.pg_rows.specs.Named.{rows_named}
use Rattle.pg_rows.specs.Tables.{table}
use Rattle.pg_write.specs.Items.{item_of}
use Rattle.pg_write_make.specs.Scenes.{reading, parameters_in}
use Rattle.pg_write.proofs.setting.set_rows.Given as goal

abbrev pub invariant-loop-at : goal.invariant-loop-at
invariant-loop-at g l =
    let names = l.scene.names.now in
    let step = set_row (reading (parameters_in l.scene)) (map (item_of names) l.items.items) in
    record {
      rest : each_step step l.fn.live.graph (rows_named names (table l.rows)) ≡ each_step step l.live.graph (rows_named names (drop l.at (table l.rows)));
      aside : l.live.aside ≡ l.fn.live.aside;
    }
