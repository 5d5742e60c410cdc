use Rattle.std.proofs.Common.{◌==◌, cond, ap, ◌∙◌}
use Rattle.pg_graph.specs.Links.{without_id}
use Rattle.pg_graph.proofs.Ids.{list_without, ends_at}
use Rattle.pg_pool.proofs.links.Incidence.remove.Goals as goal

pub returns : goal.returns
returns c = λ rels rel s t there i. record {
  outgoing = λ q. c.remove.ensures.removed q ∙ ap (λ xs. cond (q == c.args.source.0) (without_id c.args.id.0 xs) xs) (i.outgoing q)
      ∙ list_without (λ r. r.source.0 == q) rels c.args.id.0 rel _ (ends_at q c.args.source.0 rel.source.0 (ap (λ n. n.0) s)) there;
  incoming = λ q. c.remove-2.ensures.removed q ∙ ap (λ xs. cond (q == c.args.target.0) (without_id c.args.id.0 xs) xs) (i.incoming q)
      ∙ list_without (λ r. r.target.0 == q) rels c.args.id.0 rel _ (ends_at q c.args.target.0 rel.target.0 (ap (λ n. n.0) t)) there;
  outgoing_apart = c.remove.ensures.apart;
  incoming_apart = c.remove-2.ensures.apart;
}
