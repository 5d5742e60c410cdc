use Rattle.std.proofs.Common.{◌≡◌, take, map}
use Rattle.pg_rows.proofs.sorts.places_of.Given as goal

abbrev pub invariant-loop-entry : goal.invariant-loop-entry
invariant-loop-entry l = l.places.items ≡ map (λ e. e.1) (take l.entry-index l.entry-items)
