use Rattle.std.proofs.Common.{◌≡◌, ◌++◌, drop, map}
use Rattle.pg_value_core.specs.View.{view}
use Rattle.pg_rows.specs.Tables.{table, first_places}
use Rattle.pg_rows.proofs.firsts.unseen.Given as goal

abbrev pub invariant-loop-at : goal.invariant-loop-at
invariant-loop-at l = l.places.items ++ first_places (map (λ r. map view r.now) l.seen.keys) l.at (drop l.at (table l.rows)) ≡ first_places (map (λ r. map view r.now) l.fn.seen.keys) 0 (table l.rows)
