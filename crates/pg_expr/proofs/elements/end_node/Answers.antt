use Rattle.pg_expr.proofs.ElementLemmas.{no_end}
use Rattle.pg_expr.proofs.elements.end_node.Goals as goal

pub returns-in_default : goal.returns-in_default
returns-in_default g c = record { ok = tt; err = no_end c.args.v.now c.in_default.not-Rel c.args.is_last c.args.graph.now }
