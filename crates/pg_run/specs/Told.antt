-- The rows of a table as a query's output, and the test of it.
use Rattle.std.specs.Prelude.{List, true, flat_map, map, Result}
use Rattle.serde_json.specs.Data.{Items}
use Rattle.pg_meaning.specs.Answer.{each_step}
use Rattle.pg_meaning.specs.Graph.{Graph}
use Rattle.pg_meaning.specs.Queries.{output_rows, test_output}
use Rattle.pg_meaning.specs.Value.{Value, values_of}
use Rattle.pg_meaning.specs.declared.fault.Fault.{Fault}
use Rattle.pg_rows.specs.States.{Named, named_rows}
use Rattle.pg_run.specs.Printed.{printed_items}

abbrev pub rows_told : Named → List (List Value)
rows_told t = output_rows true (named_rows t)

-- no deleted element in any of the rows
abbrev pub test_told : Graph → List (List Value) → Result (Unit {0}) Fault
test_told graph rows = each_step (λ done v. test_output graph v) tt (flat_map (λ r. r) rows)

abbrev pub printed_rows : Graph → List (List Value) → List Items
printed_rows graph rows = map (λ row. printed_items graph (values_of row)) rows
