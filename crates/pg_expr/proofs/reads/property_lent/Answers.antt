use Rattle.pg_expr.proofs.ElementLemmas.{no_property}
use Rattle.pg_expr.proofs.reads.property_lent.Goals as goal

pub returns-in_default : goal.returns-in_default
returns-in_default g c = record {
  ok = tt;
  err = no_property c.args.graph.now c.args.key.now c.args.value.now c.in_default.not-Null c.in_default.not-Map c.in_default.not-Node c.in_default.not-Rel;
}
