use Rattle.std.proofs.Common.{◌==◌, cond, sym, ap, subst, ◌∙◌}
use Rattle.pg_graph.specs.Links.{with_id, without_id}
use Rattle.pg_graph.specs.Sorted.{Rises}
use Rattle.pg_graph.proofs.Ids.{Lacks, ids_lack, list_with, ends_at, rises_with, undone}
use Rattle.pg_pool.proofs.links.Incidence.add.Goals as goal

pub remove-requires : goal.remove-requires
remove-requires c = record {
  rises = λ q. subst (Rises (λ n. n)) (sym (c.in_ok-add.ensures.ok q)) (rises_with (q == c.args.source.0) c.args.id.0 _ (c.requires.outgoing.rises q));
  apart = c.in_ok-add.ensures.apart;
}

pub returns-clause-ok : goal.returns-clause-ok
returns-clause-ok c = λ rels rel s t absent i. record {
  outgoing = λ q. c.in_ok-add.ensures.ok q ∙ ap (λ xs. cond (q == c.args.source.0) (with_id c.args.id.0 xs) xs) (i.outgoing q)
      ∙ list_with (λ r. r.source.0 == q) rels c.args.id.0 rel _ (ends_at q c.args.source.0 rel.source.0 (ap (λ n. n.0) s)) absent;
  incoming = λ q. c.in_default.ensures.ok q ∙ ap (λ xs. cond (q == c.args.target.0) (with_id c.args.id.0 xs) xs) (i.incoming q)
      ∙ list_with (λ r. r.target.0 == q) rels c.args.id.0 rel _ (ends_at q c.args.target.0 rel.target.0 (ap (λ n. n.0) t)) absent;
  outgoing_apart = c.in_ok-add.ensures.apart;
  incoming_apart = c.in_default.ensures.apart;
}

pub returns-in-Err-clause-err : goal.returns-in-Err-clause-err
returns-in-Err-clause-err c = λ rels absent i. record {
  outgoing = λ q.
      c.remove.ensures.removed q ∙ ap (λ xs. cond (q == c.args.source.0) (without_id c.args.id.0 xs) xs) (c.in_ok-add.ensures.ok q)
      ∙ undone (q == c.args.source.0) c.args.id.0 _ (subst (Lacks c.args.id.0) (sym (i.outgoing q)) (ids_lack (λ r. r.source.0 == q) rels c.args.id.0 absent)) ∙ i.outgoing q;
  incoming = λ q. c.in-Err.ensures.err q ∙ i.incoming q;
  outgoing_apart = c.remove.ensures.apart;
  incoming_apart = c.in-Err.ensures.apart;
}
