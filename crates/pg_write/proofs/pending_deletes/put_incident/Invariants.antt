use Rattle.std.proofs.Common.{◌≡◌}
use Rattle.pg_write.specs.Gathered.{put_incident}
use Rattle.pg_write.proofs.pending_deletes.put_incident.Given as goal

abbrev pub invariant-loop-node : goal.invariant-loop-node
invariant-loop-node g l = put_incident l.graph l.node-iterator l.rels.keys ≡ put_incident l.graph l.nodes.keys l.fn.rels.keys
