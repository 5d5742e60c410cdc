use Rattle.pg_expr.proofs.ElementLemmas.{no_labels}
use Rattle.pg_expr.proofs.elements.labels.Goals as goal

pub returns-in_default : goal.returns-in_default
returns-in_default g c = record { ok = tt; err = λ other. no_labels c.args.v.now c.in_default.not-Node c.args.graph.now }
