use Rattle.std.proofs.Common.{◌≡◌, ◌-◌, map, take}
use Rattle.pg_json.proofs.held_rows.places_from.Given as goal

abbrev pub invariant-loop-place : goal.invariant-loop-place
invariant-loop-place l = l.from_begin.items ≡ map (λ place. place - l.begin) (take l.place-index l.places)
