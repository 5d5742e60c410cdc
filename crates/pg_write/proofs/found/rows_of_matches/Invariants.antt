use Rattle.std.proofs.Common.{◌≡◌, ◌++◌, map}
use Rattle.pg_rows.specs.Tables.{table}
use Rattle.pg_value_core.specs.View.{view}
use Rattle.pg_write.specs.Mergings.{rows_read}
use Rattle.pg_write.proofs.found.rows_of_matches.Given as goal

abbrev pub invariant-loop-left : goal.invariant-loop-left
invariant-loop-left g l = record {
  rows : rows_read l.graph l.parts (map view l.row) l.search.matches l.search.found ≡ table l.rows ++ rows_read l.graph l.parts (map view l.row) l.left l.rest;
  width : l.rows.width ≡ l.width;
}

abbrev pub decreases-loop-left : goal.decreases-loop-left
decreases-loop-left g l = l.left
