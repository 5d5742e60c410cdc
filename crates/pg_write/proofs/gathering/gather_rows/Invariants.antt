use Rattle.std.proofs.Common.{◌≡◌, map, drop}
use Rattle.pg_expr.specs.Prepared.{tree_of}
use Rattle.pg_meaning.specs.Answer.{each_step}
use Rattle.pg_rows.specs.Named.{rows_named}
use Rattle.pg_rows.specs.Tables.{table}
use Rattle.pg_write.specs.Gathered.{put_row}
use Rattle.pg_write_make.specs.Scenes.{parameters_in}
use Rattle.pg_write.proofs.gathering.gather_rows.Given as goal

abbrev pub invariant-loop-at : goal.invariant-loop-at
invariant-loop-at g l =
    let names = l.scene.names.now in
    let step = put_row (parameters_in l.scene) l.graph (map (tree_of names) l.elements.items) in
    each_step step l.fn.doomed (rows_named names (table l.rows)) ≡ each_step step l.doomed (rows_named names (drop l.at (table l.rows)))
