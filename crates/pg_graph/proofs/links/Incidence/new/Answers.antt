use Rattle.std.proofs.Common.{◌==◌, sym, ◌∙◌}
use Rattle.pg_graph.proofs.Ids.{ids_empty}
use Rattle.pg_graph.proofs.links.Incidence.new.Goals as goal

pub returns : goal.returns
returns c = record {
  outgoing = λ node. c.new.ensures node ∙ sym (ids_empty (λ r. r.source.0 == node));
  incoming = λ node. c.new-2.ensures node ∙ sym (ids_empty (λ r. r.target.0 == node));
}
