use Rattle.std.proofs.Common.{◌==◌, sym, ◌∙◌}
use Rattle.pg_graph.proofs.Ids.{ids_empty}
use Rattle.pg_pool.proofs.links.Incidence.new.Goals as goal

pub returns : goal.returns
returns c = record {
  outgoing = λ node. c.new.ensures.none node ∙ sym (ids_empty (λ r. r.source.0 == node));
  incoming = λ node. c.new-2.ensures.none node ∙ sym (ids_empty (λ r. r.target.0 == node));
  outgoing_apart = c.new.ensures.apart;
  incoming_apart = c.new-2.ensures.apart;
}
