use Rattle.std.proofs.Common.{◌≡◌, drop}
use Rattle.pg_meaning.specs.Queries.{test_ids}
use Rattle.pg_run.proofs.Places.{test_from}
use Rattle.pg_run.proofs.presence.test_path.Given as goal

abbrev pub invariant-loop-id : goal.invariant-loop-id
invariant-loop-id g l = test_ids l.graph l.id-items ≡ test_from l.graph l.is_node (drop l.id-index l.id-items)
