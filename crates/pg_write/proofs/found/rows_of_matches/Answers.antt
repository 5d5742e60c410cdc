use Rattle.std.proofs.Common.{◌-◌, ◌++◌, map, sym, ap, ◌∙◌}
use Rattle.pg_rows.specs.Tables.{table}
use Rattle.pg_value_core.specs.View.{view}
use Rattle.pg_write.proofs.FoundLemmas.{one_read}
use Rattle.pg_write.specs.Mergings.{rows_read}
use Rattle.pg_write.proofs.found.rows_of_matches.Goals as goal

pub loop-left-init : goal.loop-left-init
loop-left-init g c =
    let graph = c.args.graph.now in
    let parts = c.args.parts.now in
    let values = map view c.args.row.now in
    record {
      rows = λ i. sym c.new-rows.ensures.rows i ++ rows_read graph parts values (sym c.matches-left.ensures i) (sym c.found-rest.ensures i);
      width = c.new-rows.ensures.width;
    }

pub loop-left-preserved : goal.loop-left-preserved
loop-left-preserved g c =
    let graph = c.args.graph.now in
    let parts = c.args.parts.now in
    let values = map view c.args.row.now in
    record {
      rows =
          one_read graph parts values c.loop-left.left c.loop-left.rest.now _ (table c.loop-left.rows) (table c.push_match.new.rows) c.loop-left-test.true c.loop-left.invariant.rows c.in_ok-rest.ensures.rows
          ∙ ap (λ xs. table c.push_match.new.rows ++ rows_read graph parts values (c.loop-left.left - 1) xs) (sym c.in_ok-rest.ensures.behind);
      width = c.in_ok-rest.ensures.width ∙ c.loop-left.invariant.width;
    }
