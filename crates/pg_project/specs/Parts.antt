-- The parts of a projection that the program gives one after the other.
use Rattle.std.specs.Prelude.{ℕ, List, map, length, take, drop, Result, Ok, Option}
use Rattle.pg_meaning.specs.Answer.{◌>>=◌}
use Rattle.pg_meaning.specs.Graph.{Graph}
use Rattle.pg_meaning.specs.Meters.{Setting}
use Rattle.pg_meaning.specs.Projections.{Projected, distinct_rows, item_rows, limited, ordered_rows, passing_rows}
use Rattle.pg_meaning.specs.Rows.{Row}
use Rattle.pg_meaning.specs.Scopes.{Column}
use Rattle.pg_meaning.specs.Tree.{Expression, Projection}
use Rattle.pg_meaning.specs.Value.{Value}
use Rattle.pg_meaning.specs.declared.fault.Fault.{Fault}
use Rattle.pg_rows.specs.Named.{row_of}
use Rattle.pg_project.specs.Given.{Cut, cut_given}

-- a row of columns, and behind them the earlier variables
abbrev pub stands : (columns earlier : List (List ℕ)) → List Value → Projected
stands columns earlier w = record { columns = row_of columns (take (length columns) w); earlier = row_of earlier (drop (length columns) w) }

-- behind the items: DISTINCT, ORDER BY, SKIP, LIMIT and WHERE
abbrev pub rows_ended : Setting → Graph → List Column → Projection → Option Expression → Cut → List Projected → Result (List Row) Fault
rows_ended s graph columns p where_ c items = do
  sorted ← ordered_rows s graph columns p.order (distinct_rows p.distinct items)
  kept ← passing_rows s graph where_ (limited c.limit (drop c.skip sorted))
  Ok (map (λ r. r.columns) kept)

-- behind the steps
abbrev pub rows_projected : Setting → Graph → List Column → Projection → Option Expression → List Row → Result (List Row) Fault
rows_projected s graph columns p where_ rows = do
  c ← cut_given s.parameters graph p.skip p.limit
  items ← item_rows s graph p.distinct columns rows
  rows_ended s graph columns p where_ c items
