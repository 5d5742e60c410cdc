use Rattle.std.proofs.Common.{◌≡◌, length}
use Rattle.pg_graph.specs.Removed.{live_ids}
use Rattle.pg_store.proofs.incident.Incident.next.Given as goal

-- those left out are not there
abbrev pub invariant-loop-id : goal.invariant-loop-id
invariant-loop-id l = live_ids l.self-inside.gone.now l.self-inside.ids ≡ l.fn.self

abbrev pub decreases-loop-id : goal.decreases-loop-id
decreases-loop-id l = length l.self-inside.ids
