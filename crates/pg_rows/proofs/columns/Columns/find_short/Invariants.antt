use Rattle.std.proofs.Common.{◌≡◌, drop}
use Rattle.std.specs.List.{position_from}
use Rattle.pg_rows.proofs.NamedRows.{is_named}
use Rattle.pg_rows.proofs.columns.Columns.find_short.Given as goal

abbrev pub invariant-loop-at : goal.invariant-loop-at
invariant-loop-at l =
    position_from (is_named l.name) 0 l.held-items ≡ position_from (is_named l.name) l.at (drop l.at l.held-items)
