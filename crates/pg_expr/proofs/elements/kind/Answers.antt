use Rattle.pg_expr.proofs.ElementLemmas.{no_type}
use Rattle.pg_expr.proofs.elements.kind.Goals as goal

pub returns-in_default : goal.returns-in_default
returns-in_default g c = record { ok = tt; err = λ other. no_type c.args.v.now c.in_default.not-Rel c.args.graph.now }
