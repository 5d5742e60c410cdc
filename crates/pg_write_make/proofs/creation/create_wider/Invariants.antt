use Rattle.std.proofs.Common.{◌≡◌, [], ◌++◌, Ok, length}
use Rattle.pg_meaning.specs.Answer.{◌>>=◌}
use Rattle.pg_rows.specs.Left.{rows_left}
use Rattle.pg_rows.specs.Named.{rows_named}
use Rattle.pg_rows.specs.Tables.{table}
use Rattle.pg_write_make.specs.Creations.{rows_created}
use Rattle.pg_write_make.specs.Lent.{paths_view}
use Rattle.pg_write_make.specs.Scenes.{max_elements_in, parameters_in}
use Rattle.pg_write_make.proofs.creation.create_wider.Given as goal

abbrev pub invariant-loop-row : goal.invariant-loop-row
invariant-loop-row g l =
    let names = l.scene.names.now in
    let ps = paths_view l.paths in
    record {
      rest : rows_created (parameters_in l.scene) (max_elements_in l.scene) ps l.fn.live.graph (rows_named names (table l.fn.rows))
          ≡ (rows_created (parameters_in l.scene) (max_elements_in l.scene) ps l.live.graph (rows_named names (rows_left l.left)) >>= λ others. Ok (others.0, rows_named names (table l.made) ++ others.1));
      width : l.made.width ≡ length names;
      empty : l.values.items ≡ [];
      narrow : l.left.rows.width ≡ l.fn.rows.width;
      aside : l.live.aside ≡ l.fn.live.aside;
    }

abbrev pub decreases-loop-row : goal.decreases-loop-row
decreases-loop-row g l = length (rows_left l.left)
