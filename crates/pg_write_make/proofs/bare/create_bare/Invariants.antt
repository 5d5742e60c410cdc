use Rattle.std.proofs.Common.{◌≡◌, drop, take}
use Rattle.pg_rows.specs.Named.{rows_named}
use Rattle.pg_rows.specs.Tables.{table}
use Rattle.pg_write_make.proofs.StepLemmas.{behind}
use Rattle.pg_write_make.specs.Creations.{rows_created}
use Rattle.pg_write_make.specs.Lent.{paths_view}
use Rattle.pg_write_make.specs.Scenes.{max_elements_in, parameters_in}
use Rattle.pg_write_make.proofs.bare.create_bare.Given as goal

abbrev pub invariant-loop-at : goal.invariant-loop-at
invariant-loop-at g l =
    let names = l.scene.names.now in
    let ps = paths_view l.paths in
    let rows = table l.rows in
    record {
      rest : rows_created (parameters_in l.scene) (max_elements_in l.scene) ps l.fn.live.graph (rows_named names rows)
          ≡ behind (rows_named names (take l.at rows)) (rows_created (parameters_in l.scene) (max_elements_in l.scene) ps l.live.graph (rows_named names (drop l.at rows)));
      aside : l.live.aside ≡ l.fn.live.aside;
    }
